-- What the pops do: one law for each return. Assumes nothing.
use Rattle.std.proofs.Common.{◌≡◌, ℕ, ◌-◌, ◌<◌, ◌≢◌, List, [], length}
use Rattle.std.proofs.Common.{get_or, sym, refl, ap, ◌∙◌, arith, eq-eqb, ne_eqb}
use mathlib.Core.Option.{none, some}
use Rattle.queue.proofs.Checks.{fine_change}
use Rattle.rules.proofs.Places.{place_zero}
use Rattle.rules.proofs.Slots.{list_of_none, handed_at, list_of_drop, lay-own, length_list_of, list_of_take}
use Rattle.rules.proofs.Told.{accepts_same, accepts}
use Rattle.rules.specs.Ends.{pop_front, pop_back}
use Rattle.rules.specs.Outcome.{shut, told, do_rule}
use Rattle.rules.specs.Places.{place}
use Rattle.rules.specs.Records.{Rec, held, stepped}
use Rattle.rules.specs.Refusals.{on_change}
use Rattle.rules.specs.Slots.{list_of, lay}
use Rattle.rules.specs.Choices.{whether}

none_held : (b : List ℕ) (h n : ℕ) → n ≡ 0 → list_of b h n ≡ []
none_held b h n e = rw e (list_of_none b h)

module _ (b : List ℕ) (r : Rec) (first : on_change (length b) r 0 ≡ 0) where
  pub front_none : r.len ≡ 0 → (record { refused = 0; moved = 0; state = shut r; handed = none }, b)
      ≡ told (do_rule b r pop_front)
  unfolding pop_front held whether
  front_none empty =
      let no = none_held b r.head r.len empty in
      accepts_same b r pop_front first refl (rw (eq-eqb r.len 0 empty)) (omega arith) refl (rw no) (rw no)

  pub back_none : r.len ≡ 0 → (record { refused = 0; moved = 0; state = shut r; handed = none }, b)
      ≡ told (do_rule b r pop_back)
  unfolding pop_back held
  back_none empty =
      let no = none_held b r.head r.len empty in
      accepts_same b r pop_back first refl refl (omega arith) refl (rw no) (rw no)

  -- the first element is handed over, and head steps on
  pub front_popped : (v i p : ℕ) (r' : Rec) → r.len ≢ 0 → i ≡ r.head → v ≡ get_or b i 0
      → p ≡ place (length b) r.head 1 → r' ≡ stepped r p (r.len - 1)
      → (record { refused = 0; moved = 0; state = shut r'; handed = some v }, b) ≡ told (do_rule b r pop_front)
  unfolding pop_front held whether
  front_popped v i p r' some_in at_i at-v at_p made =
      let g = (fine_change b r first).good in
      let h = r.head in
      let in_ring : h < length b = omega arith in
      accepts b r pop_front first refl 0 p (r.len - 1) r' (some v) b made (at_p ∙ sym (rw (ne_eqb r.len 0 some_in)))
      refl refl
      (sym (handed_at b h in_ring r.len 0 g.fits (omega arith)
      ∙ ap some (ap (λ (k : ℕ). get_or b k 0) (place_zero (length b) h in_ring ∙ sym at_i) ∙ sym at-v)))
      (rw at_p (sym (ap (lay b (place (length b) h 1)) (list_of_drop b h in_ring 1 r.len (omega arith) g.fits)
      ∙ lay-own b (place (length b) h 1) (r.len - 1))))

  -- the last element is handed over, and head stays
  pub back_popped : (v p : ℕ) (r' : Rec) → r.len ≢ 0 → p ≡ place (length b) r.head (r.len - 1) → v ≡ get_or b p 0
      → r' ≡ stepped r r.head (r.len - 1)
      → (record { refused = 0; moved = 0; state = shut r'; handed = some v }, b) ≡ told (do_rule b r pop_back)
  unfolding pop_back held
  back_popped v p r' some_in at_p at-v made =
      let g = (fine_change b r first).good in
      let h = r.head in
      let in_ring : h < length b = omega arith in
      accepts b r pop_back first refl 0 h (r.len - 1) r' (some v) b made refl refl refl
      (rw length_list_of (sym (handed_at b h in_ring r.len (r.len - 1) g.fits (omega arith)
      ∙ ap some (ap (λ (k : ℕ). get_or b k 0) (sym at_p) ∙ sym at-v))))
      (rw length_list_of (sym (ap (lay b h) (list_of_take b h in_ring (r.len - 1) r.len (omega arith) g.fits)
      ∙ lay-own b h (r.len - 1))))
