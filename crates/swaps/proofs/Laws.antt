-- What the swaps do: one law for each return. Assumes nothing.
use mathlib.Core.List.{List}
use mathlib.Core.Logic.{◌≢◌, ◌⊎◌, inl, inr}
use mathlib.Core.Option.{none, some}
use mathlib.Core.Path.{◌≡◌, refl, ◌∙◌, sym, ap}
use Prim.Native.Nat.{ℕ, ◌≤◌, ◌<◌, ◌-◌, ◌+◌}
use native.Mathlib.Omega.{arith}
use borrow.Author.Tests.{le-ltb, lt-ltb, eq-eqb, ne_eqb}
use lib.Dec.{ltb}
use lib.ListN.{length, get_or, set}
use lib.Seq.{set-set, set-get_or}
use Rattle.swaps.proofs.Stores.{both_stored, first_out, last_out}
use Rattle.queue.proofs.Checks.{fine_change}
use Rattle.queue.specs.Answers.{number_of}
use Rattle.rules.proofs.Held.{stepped_same}
use Rattle.rules.proofs.Places.{place_zero}
use Rattle.rules.proofs.Slots.{get_or_list_of, handed_past, length_list_of, handed_at}
use Rattle.rules.proofs.Told.{own-refused, accepts_same, accepts, alike}
use Rattle.rules.specs.Ends.{exchange, swap_remove_front, swap_remove_back, pop_front, pop_back}
use Rattle.rules.specs.Outcome.{shut, told, do_rule}
use Rattle.rules.specs.Places.{place}
use Rattle.rules.specs.Records.{Rec, held, stepped}
use Rattle.rules.specs.Refusals.{on_change}
use Rattle.rules.specs.Slots.{list_of}
use Rattle.rules.specs.Choices.{ask, whether}
use Rattle.queue.specs.declared.refusals.Refusal.TheVariants.{Position}

module _ (b : List ℕ) (r : Rec) (first : on_change (length b) r 0 ≡ 0) where
  -- ---- two positions

  module _ (i j : ℕ) where
    pub position_past : (r.len ≤ i) ⊎ ((i < r.len) × (r.len ≤ j))
        → (record { refused = number_of Position; moved = 0; state = shut r; handed = none }, b)
        ≡ told (do_rule b r (exchange i j))
    unfolding exchange number_of ask
    position_past past = own-refused b r (exchange i j) 3 (λ e. omega arith) first (asked past)
      where
        asked : (r.len ≤ i) ⊎ ((i < r.len) × (r.len ≤ j)) → ask (ltb i r.len) 3 (ask (ltb j r.len) 3 0) ≡ 3
        asked (inl le) = rw (le-ltb i r.len le)
        asked (inr (lt, le)) = rw (lt-ltb i r.len lt, le-ltb j r.len le)

    module _ (lt : i < r.len) where
      pub not_swapped : j < r.len → i ≡ j
          → (record { refused = 0; moved = 0; state = shut r; handed = none }, b) ≡ told (do_rule b r (exchange i j))
      unfolding exchange ask whether
      not_swapped lt' e =
          accepts_same b r (exchange i j) first (rw (lt-ltb i r.len lt, lt-ltb j r.len lt')) refl refl
          (rw (eq-eqb i j e)) refl
          (rw e (set-set (held b r) j _ _ ∙ set-get_or (held b r) j 0))

      pub swapped : (p p' : ℕ) (b' : List ℕ) → j < r.len → i ≢ j → p ≡ place (length b) r.head i
          → p' ≡ place (length b) r.head j → b' ≡ set (set b p (get_or b p' 0)) p' (get_or b p 0)
          → (record { refused = 0; moved = 2; state = shut r; handed = none }, b') ≡ told (do_rule b r (exchange i j))
      unfolding exchange ask whether held
      swapped p p' b' lt' ne at_p at-p' at_b =
          let g = (fine_change b r first).good in
          let h = r.head in
          let in_ring : h < length b = omega arith in
          let one = get_or_list_of b h in_ring r.len i g.fits lt in
          let other = get_or_list_of b h in_ring r.len j g.fits lt' in
          accepts b r (exchange i j) first (rw (lt-ltb i r.len lt, lt-ltb j r.len lt')) 2 h r.len r none b'
          (sym (stepped_same (length b) r g)) refl refl (rw (ne_eqb i j ne)) refl
          (rw (one, other, at_b, at_p, at-p')
          (both_stored b h r.len i _ in_ring g.fits lt j _ lt'))

  -- ---- the first in the place of the removed one

  module _ (i : ℕ) where
    pub front_past : r.len ≤ i → (record { refused = 0; moved = 0; state = shut r; handed = none }, b)
        ≡ told (do_rule b r (swap_remove_front i))
    unfolding swap_remove_front held whether
    front_past le =
        let no = le-ltb i r.len le in
        accepts_same b r (swap_remove_front i) first refl (rw no) (rw no) (rw no) (handed_past b r.head r.len i le)
        (rw (length_list_of, no))

    pub back_past : r.len ≤ i → (record { refused = 0; moved = 0; state = shut r; handed = none }, b)
        ≡ told (do_rule b r (swap_remove_back i))
    unfolding swap_remove_back held whether
    back_past le =
        let no = le-ltb i r.len le in
        accepts_same b r (swap_remove_back i) first refl refl (rw no) (rw no) (handed_past b r.head r.len i le)
        (rw (length_list_of, no))

    module _ (lt : i < r.len) where
      -- removing the first is popping it
      pub front_first : i ≡ 0 → told (do_rule b r pop_front) ≡ told (do_rule b r (swap_remove_front i))
      unfolding pop_front swap_remove_front held whether
      front_first e =
          let is = lt-ltb i r.len lt in
          alike b r pop_front (swap_remove_front i) refl (rw (is, ne_eqb r.len 0 (λ z. omega arith))) (rw is)
          (rw (is, eq-eqb i 0 e)) (rw e) (rw (length_list_of, is, e, set-get_or))

      pub back_last : i ≡ r.len - 1 → told (do_rule b r pop_back) ≡ told (do_rule b r (swap_remove_back i))
      unfolding pop_back swap_remove_back held whether
      back_last e =
          let is = lt-ltb i r.len lt in
          alike b r pop_back (swap_remove_back i) refl refl (rw is) (rw (is, eq-eqb (i + 1) r.len (omega arith)))
          (rw (length_list_of, e)) (rw (length_list_of, is, e, set-get_or))

      pub front_filled : (v p f : ℕ) (r' : Rec) (b' : List ℕ) → i ≢ 0 → p ≡ place (length b) r.head i
          → v ≡ get_or b p 0 → b' ≡ set b p (get_or b r.head 0)
          → f ≡ place (length b) r.head 1 → r' ≡ stepped r f (r.len - 1)
          → (record { refused = 0; moved = 1; state = shut r'; handed = some v }, b')
          ≡ told (do_rule b r (swap_remove_front i))
      unfolding swap_remove_front held whether
      front_filled v p f r' b' ne at_p at-v at_b at_f made =
          let g = (fine_change b r first).good in
          let h = r.head in
          let in_ring : h < length b = omega arith in
          let is = lt-ltb i r.len lt in
          let front : get_or (list_of b h r.len) 0 0 ≡ get_or b h 0 =
          get_or_list_of b h in_ring r.len 0 g.fits (omega arith)
          ∙ ap (λ (k : ℕ). get_or b k 0) (place_zero (length b) h in_ring) in
          accepts b r (swap_remove_front i) first refl 1 f (r.len - 1) r' (some v) b' made (at_f ∙ sym (rw is))
          (sym (rw is)) (sym (rw (is, ne_eqb i 0 ne)))
          (sym (handed_at b h in_ring r.len i g.fits lt
          ∙ ap some (ap (λ (k : ℕ). get_or b k 0) (sym at_p) ∙ sym at-v)))
          (rw (length_list_of, is, at_b, at_p, at_f, front)
          (first_out b h r.len i _ in_ring g.fits lt (omega arith)))

      pub back_filled : (v p e : ℕ) (r' : Rec) (b' : List ℕ) → i ≢ r.len - 1 → p ≡ place (length b) r.head i
          → e ≡ place (length b) r.head (r.len - 1) → v ≡ get_or b p 0
          → b' ≡ set b p (get_or b e 0) → r' ≡ stepped r r.head (r.len - 1)
          → (record { refused = 0; moved = 1; state = shut r'; handed = some v }, b')
          ≡ told (do_rule b r (swap_remove_back i))
      unfolding swap_remove_back held whether
      back_filled v p e r' b' ne at_p at_e at-v at_b made =
          let g = (fine_change b r first).good in
          let h = r.head in
          let n = r.len in
          let in_ring : h < length b = omega arith in
          let is = lt-ltb i n lt in
          let last = get_or_list_of b h in_ring n (n - 1) g.fits (omega arith) in
          accepts b r (swap_remove_back i) first refl 1 h (n - 1) r' (some v) b' made refl (sym (rw is))
          (sym (rw (is, ne_eqb (i + 1) n (λ z. omega arith))))
          (sym (handed_at b h in_ring n i g.fits lt ∙ ap some (ap (λ (k : ℕ). get_or b k 0) (sym at_p) ∙ sym at-v)))
          (rw (length_list_of, is, at_b, at_p, at_e, last) (last_out b h n i _ in_ring g.fits lt (omega arith)))
