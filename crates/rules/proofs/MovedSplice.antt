-- The moved counts of splice and of a drain's closing are true. Assumes nothing.
use mathlib.Core.List.{List, ◌++◌, map, []}
use mathlib.Core.Logic.{◌≢◌}
use mathlib.Core.Path.{◌≡◌, refl, ap, ◌∙◌, sym, subst}
use Prim.Native.Nat.{ℕ, ◌+◌, ◌-◌, ◌≤◌, ◌<◌, min}
use native.Mathlib.Omega.{arith}
use borrow.Author.Tests.{le-ltb}
use lib.Dec.{eqb, eqb→eq, ltb, ltb→lt, nltb→le}
use lib.ListN.{take, length, drop}
use Rattle.rules.proofs.Drains.{GoodDrain}
use Rattle.rules.proofs.Traces.{stretch_none, stretch_stays}
use Rattle.rules.proofs.Moved.{cut_moved, goes, head_goes, MovedTrue, MovedAt}
use Rattle.rules.proofs.Places.{place_good, place-place}
use Rattle.rules.proofs.Refusals.{change_ok, range_ok, room_ok}
use Rattle.rules.proofs.Choices.{cases, by_test, is_true, is_false, by-test₂, neqb→ne}
use Rattle.rules.specs.Drains.{Drain, closed_moved, kept_list, closed_head, close_drain, as_opened}
use Rattle.rules.specs.Moves.{strays, traces_from, traced, places_from}
use Rattle.rules.specs.Outcome.{refusal, rec_after}
use Rattle.rules.specs.Places.{place}
use Rattle.rules.specs.Records.{stepped}
use Rattle.rules.specs.Sequences.{Side}
use Rattle.rules.specs.Splice.{splice}
use Rattle.rules.specs.Choices.{whether}

-- the first s elements, then vs from outside, then those from position e on, laid from h' on: m of them stand elsewhere
abbrev pub Spliced : Side → List ℕ → ℕ → ℕ → ℕ → ℕ → List ℕ → ℕ → ℕ → Type 0
Spliced d b h n s e vs m h' =
    m ≡ strays d (take s (traces_from d (length b) b h n)
    ++ (map traced.brought vs ++ drop e (traces_from d (length b) b h n)))
    (places_from (length b) h' (s + length vs + (n - e)))

module _ (d : Side) (b : List ℕ) (h n : ℕ) (good : h ≤ length b - 1) (fits : n ≤ length b) where
  module _ (s e : ℕ) (vs : List ℕ) (le : s ≤ e) (le' : e ≤ n) (room : s + length vs + (n - e) ≤ length b) where
    -- nothing remains: from slot 0 on
    pub none_left : s + length vs + (n - e) ≡ 0 → Spliced d b h n s e vs 0 0
    none_left z =
        let zs : s ≡ 0 = omega arith in
        let zt : n - e ≡ 0 = omega arith in
        cut_moved d b h n good fits _ 0 _ 0 s e vs refl (omega arith) le le' refl room
        (λ k k'. rw (zs, zt) (omega (
          arith,
          stretch_none h 0,
          stretch_none (place (length b) h e) (place (length b) 0 (0 + length vs)),
        ))) (λ y. refl)

    -- the later ones keep their place
    pub none_goes : length vs ≡ e - s → Spliced d b h n s e vs 0 h
    none_goes eq =
        let at_e : e ≡ s + length vs = omega arith in
        cut_moved d b h n good fits _ h _ 0 s e vs refl good le le' refl room
        (λ k k'. omega (
          arith,
          stretch_stays h h s refl,
          stretch_stays (place (length b) h e) (place (length b) h (s + length vs)) (n - e)
              (ap (place (length b) h) at_e),
        )) (λ z. refl)

    -- the later ones move
    pub later_go : length vs ≢ e - s → Spliced d b h n s e vs (n - e) h
    later_go ne =
        cut_moved d b h n good fits _ h _ (n - e) s e vs refl good le le' refl room
        (λ k k'. omega (
          arith,
          stretch_stays h h s refl,
          goes (length b) h k e (s + length vs) (n - e) (λ lt. (omega arith, omega arith, (λ z. ne (omega arith)))),
        ))
        (λ z. omega arith)

    -- the earlier ones move, and head steps on by the hole
    pub earlier_go : length vs < e - s → Spliced d b h n s e vs s (place (length b) h (e - s - length vs))
    earlier_go lt =
        let c = length b in
        let x = e - s - length vs in
        let h' = place c h x in
        cut_moved d b h n good fits _ h' _ s s e vs refl (place_good c h good x (omega arith)) le le' refl room
        (λ k k'. let kept : place c h e
        ≡ place c h' (s + length vs) =
        ap (place c h) (omega arith) ∙ sym (place-place c h k x (s + length vs) (omega arith)) in
        omega (
          arith,
          head_goes c h k x s (λ l. (omega arith, omega arith)),
          stretch_stays (place c h e) (place c h' (s + length vs)) (n - e) kept,
        )) (λ z. omega arith)

pub splice-moved : (s e : ℕ) (vs : List ℕ) → MovedTrue (splice s e vs)
unfolding refusal rec_after stepped splice whether
splice-moved s e vs d b r z =
    let q = change_ok (length b) r _ z in
    let g = q.0 in
    let o = range_ok r.len s e _ q.1 in
    let room = room_ok (length b) _ o.2 in
    let c = length b in
    let h = r.head in
    let n = r.len in
    let x = length vs in
    cases (eqb (s + x + (n - e)) 0)
    (λ t. let y = eqb→eq _ 0 t in
    let none : whether (ltb (e - s) x) (n - e) (whether (ltb x (e - s)) (whether (ltb (s + x) (n - e)) s (n - e)) 0)
    ≡ 0 =
    by_test (ltb (e - s) x) (λ m. m ≡ 0) (λ u. omega arith)
    (λ u. by_test (ltb x (e - s)) (λ m. m ≡ 0)
    (λ v. by_test (ltb (s + x) (n - e)) (λ m. m ≡ 0) (λ w. omega arith) (λ w. omega arith)) (λ v. refl)) in
    rw (none, is_true (eqb (s + x + (n - e)) 0) t)
    (none_left d b h n g.placed g.fits s e vs o.0 o.1 room y))
    (λ t. rw (is_false (eqb (s + x + (n - e)) 0) t) (cases (ltb x (e - s))
    (λ u. let lt = ltb→lt x (e - s) u in
    rw (is_true (ltb x (e - s)) u, le-ltb (e - s) x (omega arith))
    (by-test₂ (ltb (s + x) (n - e)) (Spliced d b h n s e vs)
    (λ v. earlier_go d b h n g.placed g.fits s e vs o.0 o.1 room lt)
    (λ v. later_go d b h n g.placed g.fits s e vs o.0 o.1 room (λ y. omega arith))))
    (λ u. let ge = nltb→le x (e - s) u in
    rw (is_false (ltb x (e - s)) u) (by_test (ltb (e - s) x) (λ m. Spliced d b h n s e vs m h)
    (λ v. let gt = ltb→lt (e - s) x v in later_go d b h n g.placed g.fits s e vs o.0 o.1 room
    (λ y. omega arith))
    (λ v. let le = nltb→le (e - s) x v in none_goes d b h n g.placed g.fits s e vs o.0 o.1 room
    (omega arith))))))

-- closing a drain: the elements in front of it, and those behind
pub close-moved : (s : Side) (b : List ℕ) (d : Drain) → GoodDrain (length b) d → MovedAt (close_drain d) s b (as_opened d)
unfolding close_drain closed_moved closed_head kept_list rec_after stepped whether
close-moved s b d g =
    let c = length b in
    let h = d.head in
    let n = d.start + d.drained + d.tail in
    let e = d.start + d.drained in
    let behind : d.start + 0 + (n - e) ≡ d.start + d.tail = omega arith in
    subst (λ (k : ℕ). closed_moved d ≡ strays s (kept_list (traces_from s c b h n) d) (places_from c (closed_head c h d) k))
    behind (cases (eqb (d.start + d.tail) 0)
    (λ t. let y = eqb→eq (d.start + d.tail) 0 t in
    let least : whether (eqb d.drained 0) 0 (min d.start d.tail) ≡ 0 =
    by_test (eqb d.drained 0) (λ m. m ≡ 0) (λ u. refl) (λ u. omega arith) in
    rw (least, is_true (eqb (d.start + d.tail) 0) t)
    (none_left s b h n g.whole.placed g.whole.fits d.start e [] (omega arith) (omega arith) (omega arith)
    (omega arith)))
    (λ t. rw (is_false (eqb (d.start + d.tail) 0) t) (by-test₂ (eqb d.drained 0) (Spliced s b h n d.start e [])
    (λ u. let z = eqb→eq d.drained 0 u in none_goes s b h n g.whole.placed g.whole.fits d.start e []
    (omega arith) (omega arith) (omega arith) (omega arith))
    (λ u. let ne = neqb→ne d.drained 0 u in
    cases (ltb d.start d.tail)
    (λ v. let lt = ltb→lt d.start d.tail v in
    let least : min d.start d.tail ≡ d.start = omega arith in
    let hole : e - d.start - 0 ≡ d.drained = omega arith in
    rw (least, is_true (ltb d.start d.tail) v)
    (rw hole at (earlier_go s b h n g.whole.placed g.whole.fits d.start e [] (omega arith) (omega arith)
    (omega arith) (omega arith))))
    (λ v. let ge = nltb→le d.start d.tail v in
    let least : min d.start d.tail ≡ n - e = omega arith in
    rw (least, is_false (ltb d.start d.tail) v)
    (later_go s b h n g.whole.placed g.whole.fits d.start e [] (omega arith) (omega arith) (omega arith)
    (λ z. omega arith)))))))
