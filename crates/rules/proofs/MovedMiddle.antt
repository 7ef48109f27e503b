-- The moved counts of the calls that join lists, and of those in the middle, are true. Assumes nothing.
use mathlib.Core.List.{List, map, reverse, ◌∷◌, ◌++◌, [], append-nil}
use mathlib.Core.Path.{refl, ◌∙◌, sym, ◌≡◌, ap}
use Prim.Native.Nat.{ℕ, ◌+◌, zero, suc, min, ◌-◌}
use native.Mathlib.Omega.{arith}
use lib.Dec.{leb, leb→le, ltb, ltb→lt, nltb→le}
use lib.ListN.{length, replicate, length-replicate, take, drop, drop_of_length-le}
use lib.Seq.{take_all}
use Rattle.rules.proofs.Traces.{length_traces, stretch_stays}
use Rattle.rules.proofs.Moved.{MovedTrue, behind_moved, cut-behind, front-moved, take_most, cut_first, cut_moved, goes, head_goes, same-moved}
use Rattle.rules.proofs.Places.{step_back_good, place_zero, step-back_on, place-place, place_good}
use Rattle.rules.proofs.Refusals.{change_ok, room_ok}
use Rattle.rules.proofs.Choices.{passed, by-test₂, by-test₃}
use Rattle.rules.specs.Joins.{extend_with, prepend, extend_front, resize}
use Rattle.rules.specs.Middle.{insert_at, remove_at}
use Rattle.rules.specs.Moves.{traced, Traced, traces_from, strays, places_from}
use Rattle.rules.specs.Outcome.{refusal, rec_after}
use Rattle.rules.specs.Places.{step_back, place}
use Rattle.rules.specs.Records.{stepped}

-- ---- elements from outside, at an end

pub extend_moved : (vs : List ℕ) → MovedTrue (extend_with vs)
unfolding refusal rec_after stepped extend_with
extend_moved vs d b r e =
    let q = change_ok (length b) r _ e in
    behind_moved d b r.head r.len q.0.placed q.0.fits _ (r.len + length vs) r.len vs
    (cut-behind _ r.len (length_traces d (length b) b r.head r.len) (map traced.brought vs)) (omega arith)
    refl (room_ok (length b) (r.len + length vs) q.1)

pub prepend-moved : (vs : List ℕ) → MovedTrue (prepend vs)
unfolding refusal rec_after stepped prepend
prepend-moved vs d b r e =
    let q = change_ok (length b) r _ e in
    let room = room_ok (length b) (r.len + length vs) q.1 in
    front-moved d b r.head r.len q.0.placed q.0.fits _ (step_back (length b) r.head (length vs))
    (r.len + length vs) 0 vs refl
    (step_back_good (length b) r.head q.0.placed (length vs)) (omega arith) (omega arith) room
    (λ k. place_zero (length b) r.head k ∙ sym (step-back_on (length b) r.head k (length vs) (omega arith)))

pub extend_front-moved : (vs : List ℕ) → MovedTrue (extend_front vs)
unfolding extend_front
extend_front-moved vs = prepend-moved (reverse vs)

map-repeat : (n v : ℕ) → replicate n (traced.brought v) ≡ map traced.brought (replicate n v)
map-repeat zero v = refl
map-repeat (suc n) v = ap (λ (l : List Traced). traced.brought v ∷ l) (map-repeat n v)

pub resize-moved : (m v : ℕ) → MovedTrue (resize m v)
unfolding refusal rec_after stepped resize
resize-moved m v d b r e =
    let q = change_ok (length b) r _ e in
    let w = traces_from d (length b) b r.head r.len in
    let long = length_traces d (length b) b r.head r.len in
    rw (long, map-repeat, take_most w r.len long m)
    (behind_moved d b r.head r.len q.0.placed q.0.fits _ m (min m r.len) (replicate (m - r.len) v)
    (cut_first w r.len long (min m r.len) (map traced.brought (replicate (m - r.len) v))) (omega arith)
    (rw length-replicate (omega arith)) (room_ok (length b) m q.1))

-- ---- the shorter side moves

pub insert_moved : (i v : ℕ) → MovedTrue (insert_at i v)
unfolding refusal rec_after stepped insert_at
insert_moved i v d b r e =
    let q = change_ok (length b) r _ e in
    let g = q.0 in
    let p = passed (leb i r.len) 2 _ q.1 in
    let le = leb→le i r.len p.0 in
    let room = room_ok (length b) (r.len + 1) p.1 in
    let c = length b in
    let h = r.head in
    let n = r.len in
    by-test₂ (ltb (n - i) i) (λ m h'. m
    ≡ strays d (take i (traces_from d c b h n) ++ (traced.brought v ∷ drop i (traces_from d c b h n)))
    (places_from c h' (n + 1)))
    (λ t. cut_moved d b h n g.placed g.fits _ h (n + 1) (n - i) i i (v ∷ []) refl g.placed (omega arith) le
    (omega arith) room
    (λ k k'. omega (
      arith,
      stretch_stays h h i refl,
      goes c h k i (i + 1) (n - i) (λ lt. (omega arith, omega arith, (λ z. omega arith))),
    )) (λ z. omega arith))
    (λ t. let h' = step_back c h 1 in
    cut_moved d b h n g.placed g.fits _ h' (n + 1) i i i (v ∷ []) refl (step_back_good c h g.placed 1)
    (omega arith) le (omega arith) room
    (λ k k'. let kept : place c h i ≡ place c h' (i + 1) =
    ap (λ (a : ℕ). place c a i) (sym (step-back_on c h k 1 (omega arith))) ∙ place-place c h' k' 1 i (omega arith)
    ∙ ap (place c h') (omega arith) in
    omega (
      arith,
      head_goes c h k (c - 1) i (λ lt. (omega arith, omega arith)),
      stretch_stays (place c h i) (place c h' (i + 1)) (n - i) kept,
    )) (λ z. omega arith))

pub remove_moved : (i : ℕ) → MovedTrue (remove_at i)
unfolding refusal rec_after stepped remove_at
remove_moved i d b r e =
    let q = change_ok (length b) r _ e in
    let g = q.0 in
    let c = length b in
    let h = r.head in
    let n = r.len in
    let w = traces_from d c b h n in
    by-test₃ (ltb i n) (λ m h' n'. m ≡ strays d (take i w ++ drop (suc i) w) (places_from c h' n'))
    (λ s. let lt = ltb→lt i n s in
    by-test₂ (ltb (n - i - 1) i) (λ m h'. m ≡ strays d (take i w ++ drop (suc i) w) (places_from c h' (n - 1)))
    (λ t. cut_moved d b h n g.placed g.fits _ h (n - 1) (n - i - 1) i (suc i) [] refl g.placed (omega arith)
    (omega arith) (omega arith) (omega arith)
    (λ k k'. omega (
      arith,
      stretch_stays h h i refl,
      goes c h k (suc i) (i + 0) (n - suc i) (λ l. (omega arith, omega arith, (λ z. omega arith))),
    ))
    (λ z. omega arith))
    (λ t. let h' = place c h 1 in
    cut_moved d b h n g.placed g.fits _ h' (n - 1) i i (suc i) [] refl
    (place_good c h g.placed 1 (omega arith)) (omega arith) (omega arith) (omega arith) (omega arith)
    (λ k k'. let kept : place c h (suc i)
    ≡ place c h' (i + 0) = ap (place c h) (omega arith) ∙ sym (place-place c h k 1 (i + 0) (omega arith)) in
    omega (
      arith,
      head_goes c h k 1 i (λ l. (omega arith, omega arith)),
      stretch_stays (place c h (suc i)) (place c h' (i + 0)) (n - suc i) kept,
    )) (λ z. omega arith)))
    (λ s. let ge = nltb→le i n s in
    rw (
      take_all i w (omega (arith, length_traces d c b h n)),
      drop_of_length-le w {i = suc i} (omega (arith, length_traces d c b h n)),
      append-nil,
    )
    (same-moved d b h n g.placed g.fits))
