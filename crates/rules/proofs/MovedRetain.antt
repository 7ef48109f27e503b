-- The moved count of `retain` is true: those kept behind the first rejected one. Assumes nothing.
use mathlib.Core.Bool.{Bool}
use mathlib.Core.List.{List, ◌∷◌}
use mathlib.Core.Logic.{◌≢◌}
use mathlib.Core.Path.{◌≡◌, refl, sym, ◌∙◌, ap, subst}
use Prim.Native.Nat.{ℕ, suc, ◌<◌, ◌+◌, ◌≤◌, zero}
use native.Mathlib.Omega.{arith}
use borrow.Author.Tests.{ne_eqb, eq-eqb}
use lib.ListN.{length, get_or}
use Rattle.rules.proofs.Traces.{own_slot, strays_none}
use Rattle.rules.proofs.Moved.{MovedTrue}
use Rattle.rules.proofs.Places.{place-place, place-moved, place-low}
use Rattle.rules.proofs.Refusals.{change_ok, Good}
use Rattle.rules.proofs.Choices.{by-test₂, by-test₃}
use Rattle.rules.specs.Conditions.{those, behind, Test, meets}
use Rattle.rules.specs.Count.{one_if}
use Rattle.rules.specs.Middle.{retain}
use Rattle.rules.specs.Moves.{Traced, traces_from, strays, places_from, slot_of}
use Rattle.rules.specs.Outcome.{refusal, rec_after}
use Rattle.rules.specs.Places.{place}
use Rattle.rules.specs.Records.{stepped, held}
use Rattle.rules.specs.Sequences.{Side}
use Rattle.rules.specs.Slots.{read, list_of}

module _ (d : Side) (cap : ℕ) (b : List ℕ) (f : ℕ → Bool) where
  -- those that pass, and with their slots
  abbrev Passing : ℕ → ℕ → List ℕ
  Passing p n = those f (read cap b p n)

  abbrev Tracing : ℕ → ℕ → List Traced
  Tracing p n = those (λ (e : Traced). f e.number) (traces_from d cap b p n)

  -- an element that stood at p is put at h, before those that follow
  put_down : (p h n : ℕ) → p ≢ h
      → length (Passing (place cap p 1) n)
      ≡ strays d (Tracing (place cap p 1) n) (places_from cap (place cap h 1) (length (Passing (place cap p 1) n)))
      → suc (length (Passing (place cap p 1) n))
      ≡ strays d (record { number = get_or b p 0; origin = slot_of d p } ∷ Tracing (place cap p 1) n)
      (places_from cap h (suc (length (Passing (place cap p 1) n))))
  unfolding strays places_from one_if
  put_down p h n ne e = rw (own_slot d p h, ne_eqb p h ne) (omega arith)

  left_there : (h n : ℕ) (m : ℕ)
      → m ≡ strays d (Tracing (place cap h 1) n) (places_from cap (place cap h 1) (length (Passing (place cap h 1) n)))
      → m ≡ strays d (record { number = get_or b h 0; origin = slot_of d h } ∷ Tracing (place cap h 1) n)
      (places_from cap h (suc (length (Passing (place cap h 1) n))))
  unfolding strays places_from one_if
  left_there h n m e = rw (own_slot d h h, eq-eqb h h refl) (omega arith)

  -- behind a rejected one each kept element goes down
  lagging : (h k n : ℕ) → h < cap → 0 < k → k + n ≤ cap
      → length (Passing (place cap h k) n)
      ≡ strays d (Tracing (place cap h k) n) (places_from cap h (length (Passing (place cap h k) n)))
  unfolding those traces_from read
  lagging h k zero i pos le = sym (strays_none d _)
  lagging h k (suc n) i pos le =
      let p = place cap h k in
      let on : place cap h (k + 1) ≡ place cap p 1 = sym (place-place cap h i k 1 (omega arith)) in
      let on' : place cap (place cap h 1) k ≡ place cap p 1 =
      place-place cap h i 1 k (omega arith) ∙ ap (place cap h) (omega arith) ∙ on in
      by-test₂ (f (get_or b p 0)) {a = get_or b p 0 ∷ Passing (place cap p 1) n} {b = Passing (place cap p 1) n}
      {c = record { number = get_or b p 0; origin = slot_of d p } ∷ Tracing (place cap p 1) n}
      {d = Tracing (place cap p 1) n}
      (λ x y. length x ≡ strays d y (places_from cap h (length x)))
      (λ t. put_down p h n (λ z. place-moved cap h i k pos (omega arith) z)
      (subst (λ (z : ℕ). length (Passing z n)
      ≡ strays d (Tracing z n) (places_from cap (place cap h 1) (length (Passing z n)))) on'
      (lagging (place cap h 1) k n (place-low cap h i 1 (omega arith)) pos (omega arith))))
      (λ t. subst (λ (z : ℕ). length (Passing z n) ≡ strays d (Tracing z n) (places_from cap h (length (Passing z n))))
      on (lagging h (k + 1) n i (omega arith) (omega arith)))

  -- up to the first rejected one each stays
  leading : (h n : ℕ) → h < cap → n ≤ cap
      → length (behind f (read cap b h n)) ≡ strays d (Tracing h n) (places_from cap h (length (Passing h n)))
  unfolding those behind traces_from read
  leading h zero i le = sym (strays_none d _)
  leading h (suc n) i le =
      by-test₃ (f (get_or b h 0)) {a = behind f (read cap b (place cap h 1) n)} {b = Passing (place cap h 1) n}
      {c = get_or b h 0 ∷ Passing (place cap h 1) n} {d = Passing (place cap h 1) n}
      {e = record { number = get_or b h 0; origin = slot_of d h } ∷ Tracing (place cap h 1) n}
      {f = Tracing (place cap h 1) n}
      (λ m x y. length m ≡ strays d y (places_from cap h (length x)))
      (λ t. left_there h n _ (leading (place cap h 1) n (place-low cap h i 1 (omega arith)) (omega arith)))
      (λ t. lagging h 1 n i (omega arith) (omega arith))

none_there : (t : Test) (d : Side) (b : List ℕ) (h : ℕ)
    → length (behind (meets t) (list_of b h 0))
    ≡ strays d (those (λ (e : Traced). meets t e.number) (traces_from d (length b) b h 0))
    (places_from (length b) h (length (those (meets t) (list_of b h 0))))
unfolding behind those read traces_from strays
none_there t d b h = refl

pub retain-moved : (t : Test) → MovedTrue (retain t)
unfolding refusal rec_after stepped retain held
retain-moved t d b r e =
    let g = (change_ok (length b) r _ e).0 in
    by_count r.len refl g
  where
    by_count : (n : ℕ) → r.len ≡ n → Good (length b) r
        → length (behind (meets t) (list_of b r.head r.len))
        ≡ strays d (those (λ (e : Traced). meets t e.number) (traces_from d (length b) b r.head r.len))
        (places_from (length b) r.head (length (those (meets t) (list_of b r.head r.len))))
    by_count zero z g = rw z (none_there t d b r.head)
    by_count (suc n) z g = leading d (length b) b (meets t) r.head r.len (omega arith) g.fits
