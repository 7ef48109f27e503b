-- The moved counts of the calls at the ends are true: none moves but by a swap. Assumes nothing.
use mathlib.Core.Bool.{Bool}
use mathlib.Core.List.{List, ◌∷◌, [], map}
use mathlib.Core.Path.{◌≡◌, refl, ◌∙◌, sym, ap}
use Prim.Native.Nat.{ℕ, ◌+◌, ◌-◌, min, zero, suc, ◌<◌}
use native.Mathlib.Omega.{arith}
use lib.Dec.{eqb, eqb→eq, leb, leb→le, nleb→lt, T}
use lib.ListN.{length, drop, get_elem?}
use Rattle.rules.proofs.Ends.{passes_some}
use Rattle.rules.proofs.Held.{length-held}
use Rattle.rules.proofs.Traces.{length_traces, traces_none, strays_none, numbers_traces}
use Rattle.rules.proofs.Moved.{MovedTrue, behind_moved, cut-behind, front-moved, drop-moved, take-moved, take_most, same-moved}
use Rattle.rules.proofs.Places.{step_back_good, place_zero, step-back_on}
use Rattle.rules.proofs.Refusals.{change_ok, room_ok, Good}
use Rattle.rules.proofs.Choices.{by_test, neqb→ne, by-test₃, by-test₂}
use Rattle.rules.specs.Conditions.{passes, Test, meets}
use Rattle.rules.specs.Ends.{push_back, push_front, pop_front, pop_back, truncate, truncate_front, clear, pop_front_if, pop_back_if}
use Rattle.rules.specs.Moves.{traces_from, traced, strays, places_from, Traced}
use Rattle.rules.specs.Outcome.{refusal, rec_after}
use Rattle.rules.specs.Places.{step_back, place}
use Rattle.rules.specs.Records.{Rec, stepped, held}
use Rattle.rules.specs.Sequences.{Side}
use Rattle.rules.specs.Choices.{whether}

module _ (d : Side) (b : List ℕ) (r : Rec) where
  all_traces : length (traces_from d (length b) b r.head r.len) ≡ r.len
  all_traces = length_traces d (length b) b r.head r.len

pub push_back-moved : (v : ℕ) → MovedTrue (push_back v)
unfolding refusal rec_after stepped push_back
push_back-moved v d b r e =
    let q = change_ok (length b) r _ e in
    behind_moved d b r.head r.len q.0.placed q.0.fits _ (r.len + 1) r.len (v ∷ [])
    (cut-behind _ r.len (all_traces d b r) (map traced.brought (v ∷ []))) (omega arith) refl
    (room_ok (length b) (r.len + 1) q.1)

pub push_front-moved : (v : ℕ) → MovedTrue (push_front v)
unfolding refusal rec_after stepped push_front
push_front-moved v d b r e =
    let q = change_ok (length b) r _ e in
    let room = room_ok (length b) (r.len + 1) q.1 in
    front-moved d b r.head r.len q.0.placed q.0.fits _ (step_back (length b) r.head 1) (r.len + 1) 0
    (v ∷ []) refl
    (step_back_good (length b) r.head q.0.placed 1) (omega arith) (omega arith) room
    (λ k. place_zero (length b) r.head k ∙ sym (step-back_on (length b) r.head k 1 (omega arith)))

pub pop_front-moved : MovedTrue pop_front
unfolding refusal rec_after stepped pop_front
pop_front-moved d b r e =
    let q = change_ok (length b) r _ e in
    by_test (eqb r.len 0) (λ h'. 0
    ≡ strays d (drop 1 (traces_from d (length b) b r.head r.len)) (places_from (length b) h' (r.len - 1)))
    (λ t. let z = eqb→eq r.len 0 t in rw (z, traces_none, strays_none))
    (λ t. drop-moved d b r.head r.len q.0.placed q.0.fits 1 (omega (arith, neqb→ne r.len 0 t)))

pub pop_back-moved : MovedTrue pop_back
unfolding refusal rec_after stepped pop_back
pop_back-moved d b r e =
    let q = change_ok (length b) r _ e in
    rw (all_traces d b r) (take-moved d b r.head r.len q.0.placed q.0.fits (r.len - 1) (omega arith))

pub truncate-moved : (m : ℕ) → MovedTrue (truncate m)
unfolding refusal rec_after stepped truncate
truncate-moved m d b r e =
    let q = change_ok (length b) r _ e in
    rw (take_most _ r.len (all_traces d b r) m)
    (take-moved d b r.head r.len q.0.placed q.0.fits (min m r.len) (omega arith))

pub truncate_front-moved : (m : ℕ) → MovedTrue (truncate_front m)
unfolding refusal rec_after stepped truncate_front
truncate_front-moved m d b r e =
    let q = change_ok (length b) r _ e in
    rw (all_traces d b r) (by_test (leb r.len m)
    (λ h'. 0 ≡ strays d (drop (r.len - m) (traces_from d (length b) b r.head r.len))
    (places_from (length b) h' (min m r.len)))
    (λ t. let le = leb→le r.len m t in
    let z : r.len - m ≡ 0 = omega arith in
    let l : min m r.len ≡ r.len = omega arith in
    rw (z, l) (same-moved d b r.head r.len q.0.placed q.0.fits))
    (λ t. let gt = nleb→lt r.len m t in
    let l : min m r.len ≡ r.len - (r.len - m) = omega arith in
    rw l (drop-moved d b r.head r.len q.0.placed q.0.fits (r.len - m) (omega arith))))

pub clear-moved : MovedTrue clear
unfolding refusal rec_after stepped clear
clear-moved d b r e = rw strays_none

-- ---- the conditional pops

-- a test of an element sees its number only
pub passes-number : (f : ℕ → Bool) (w : List Traced) (i : ℕ)
    → passes (λ (e : Traced). f e.number) (get_elem? w i) ≡ passes f (get_elem? (map (λ (e : Traced). e.number) w) i)
unfolding passes
passes-number f [] i = refl
passes-number f (e ∷ w) zero = refl
passes-number f (e ∷ w) (suc i) = passes-number f w i

module _ (d : Side) (b : List ℕ) (r : Rec) where
  passes-held : (t : Test) (i : ℕ)
      → passes (λ (e : Traced). meets t e.number) (get_elem? (traces_from d (length b) b r.head r.len) i)
      ≡ passes (meets t) (get_elem? (held b r) i)
  unfolding held
  passes-held t i = passes-number (meets t) (traces_from d (length b) b r.head r.len) i
      ∙ ap (λ (l : List ℕ). passes (meets t) (get_elem? l i)) (numbers_traces d (length b) b r.head r.len)

pub pop_front_if-moved : (t : Test) → MovedTrue (pop_front_if t)
unfolding refusal rec_after stepped pop_front_if
pop_front_if-moved t d b r e =
    let q = change_ok (length b) r _ e in
    rw (passes-held d b r t 0) (by_flag (passes (meets t) (get_elem? (held b r) 0)) q.0
    (λ u. rw length-held at (passes_some (meets t) (held b r) 0 u)))
  where
    by_flag : (p : Bool) → Good (length b) r → (T p → 0 < r.len)
        → 0 ≡ strays d (whether p (drop 1 (traces_from d (length b) b r.head r.len))
        (traces_from d (length b) b r.head r.len))
        (places_from (length b) (whether p (place (length b) r.head 1) r.head) (whether p (r.len - 1) r.len))
    by_flag p g some_in =
        by-test₃ p (λ w h' n'. 0 ≡ strays d w (places_from (length b) h' n'))
        (λ u. drop-moved d b r.head r.len g.placed g.fits 1 (some_in u))
        (λ u. same-moved d b r.head r.len g.placed g.fits)

pub pop_back_if-moved : (t : Test) → MovedTrue (pop_back_if t)
unfolding refusal rec_after stepped pop_back_if
pop_back_if-moved t d b r e =
    let q = change_ok (length b) r _ e in
    rw (all_traces d b r, length-held, passes-held d b r t (r.len - 1))
    (by-test₂ (passes (meets t) (get_elem? (held b r) (r.len - 1)))
    (λ w n'. 0 ≡ strays d w (places_from (length b) r.head n'))
    (λ u. take-moved d b r.head r.len q.0.placed q.0.fits (r.len - 1) (omega arith))
    (λ u. same-moved d b r.head r.len q.0.placed q.0.fits))
