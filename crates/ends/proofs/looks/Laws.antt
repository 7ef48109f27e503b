-- What a look at one element finds: one law for each return. Assumes nothing.
use Rattle.std.proofs.Common.{◌≡◌, ℕ, ◌+◌, ◌-◌, ◌%◌, ◌^◌, ◌<◌, ◌≤◌, List, length, get_or, sym, ap, ◌∙◌, ⊎_elim, arith}
use mathlib.Core.Option.{none, some}
use lib.ListN.{get_elem?}
use Rattle.queue.proofs.Checks.{fine}
use Rattle.queue.proofs.Looks.{look_past}
use Rattle.rules.proofs.Slots.{handed_past, handed_at, length_list_of}
use Rattle.rules.proofs.Choices.{lt_or_ge}
use Rattle.rules.specs.Looks.{sees, look_at, at_position, at_back, looked}
use Rattle.rules.specs.Places.{place}
use Rattle.rules.specs.Records.{Rec, held}
use Rattle.rules.specs.Refusals.{on_queue}
use Rattle.rules.specs.Slots.{list_of}

module _ (b : List ℕ) (r : Rec) (first : on_queue (length b) r 0 ≡ 0) where
  pub unseen_past : (i : ℕ) → r.len ≤ i → sees none ≡ look_at b r (at_position i)
  unfolding held
  unseen_past i le = look_past b r (at_position i) first none (sym (handed_past b r.head r.len i le))

  pub seen_at : (i p v : ℕ) → i < r.len → p ≡ place (length b) r.head i → v ≡ get_or b p 0
      → sees (some v) ≡ look_at b r (at_position i)
  unfolding held
  seen_at i p v lt at_p at-v =
      let g = (fine b r first).good in
      look_past b r (at_position i) first (some v)
      (sym (handed_at b r.head (omega arith) r.len i g.fits lt
      ∙ ap some (ap (λ (k : ℕ). get_or b k 0) (sym at_p) ∙ sym at-v)))

-- the position len - 1, wrapped: that of the last element, or one past every list
pub last_wrapped : (b : List ℕ) (r : Rec) (i : ℕ) → (i + 1) % 2 ^ 64 ≡ r.len → i < 2 ^ 64
    → look_at b r (at_position i) ≡ look_at b r at_back
unfolding look_at held
last_wrapped b r i w f =
    ap (looked (on_queue (length b) r 0))
    (⊎_elim (λ lt. rw length_list_of (ap (get_elem? (list_of b r.head r.len)) (omega arith)))
    (λ le. rw length_list_of (handed_past b r.head r.len i (omega arith)
    ∙ sym (handed_past b r.head r.len (r.len - 1) (omega arith))))
    (lt_or_ge 0 r.len))
