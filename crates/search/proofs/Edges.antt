-- Where a search ends, in any list: what stands before that place is less, what stands at it is not. Assumes nothing.
use mathlib.Core.Bool.{Bool, not, false, true}
use mathlib.Core.List.{List, ◌++◌}
use mathlib.Core.Logic.{⊎_elim}
use mathlib.Core.Path.{◌≡◌, refl, subst}
use Prim.Native.Nat.{ℕ, ◌≤◌, suc, ◌<◌, ◌-◌, zero, ◌+◌}
use native.Mathlib.Nat.{zero-add}
use native.Mathlib.Omega.{arith}
use lib.Dec.{T, ltb, ltb→lt, nltb→le}
use lib.ListN.{length, get_or, get_or-append, length-append}
use lib.Seq.{get_or-append-add}
use Rattle.rules.proofs.Choices.{by_test, is_true, by-test₂, lt_or_ge}
use Rattle.rules.specs.Search.{halving, middle, place_in, point_of}
use Rattle.search.proofs.Handed.{begins-less, begins_not}
use Rattle.search.proofs.Searches.{point_handed}
use Rattle.search.specs.Handed.{handed_run, counted_from, begins}

pub is_false : (t : Bool) → T (not t) → t ≡ false
is_false true h = absurd h
is_false false h = refl

pub not_both : (t : Bool) → t ≡ true → t ≡ false → ⊥
not_both t p q = let z : ◌≡◌ {A = ℕ} 0 1 = cc in omega arith

-- p lies in the list s; the element before it is less, and the one at it is not
pub record Edge (f : ℕ → Bool) (s : List ℕ) (p : ℕ) : Type 0 where
  pub within : p ≤ length s
  pub before : (i : ℕ) → suc i ≡ p → f (get_or s i 0) ≡ true
  pub here : p < length s → f (get_or s p 0) ≡ false

-- ---- the halving ends at an edge

module _ (f : ℕ → Bool) (s : List ℕ) where
  halving_edge : (k low high : ℕ) → high - low ≤ k → low ≤ high → high ≤ length s
      → ((i : ℕ) → suc i ≡ low → f (get_or s i 0) ≡ true) → (high < length s → f (get_or s high 0) ≡ false)
      → Edge f s (halving k f s low high)
  unfolding halving
  halving_edge zero low high enough le in-s at_low at_high =
      let e : high ≡ low = omega arith in
      record {
        within = omega arith;
        before = at_low;
        here = λ lt. subst (λ (p : ℕ). f (get_or s p 0) ≡ false) e (at_high (omega arith));
      }
  halving_edge (suc k) low high enough le in-s at_low at_high =
      by_test (ltb low high) (Edge f s)
      (λ t.
      let lt : low < high = ltb→lt low high t in
      by_test (f (get_or s (middle low high) 0)) (Edge f s)
      (λ u. halving_edge k (middle low high + 1) high (omega arith) (omega arith) in-s
      (λ i e. let at : i ≡ middle low high = omega arith in rw at (is_true _ u)) at_high)
      (λ u. halving_edge k low (middle low high) (omega arith) (omega arith) (omega arith) at_low (λ lt. is_false _ u)))
      (λ t.
      let ge : high ≤ low = nltb→le low high t in
      let e : high ≡ low = omega arith in
      record {
        within = omega arith;
        before = at_low;
        here = λ lt. subst (λ (p : ℕ). f (get_or s p 0) ≡ false) e (at_high (omega arith));
      })

  pub place_edge : Edge f s (place_in f s)
  unfolding place_in
  place_edge = halving_edge (length s) 0 (length s) (omega arith) (omega arith) (omega arith)
      (λ i e. absurd (omega arith)) (λ lt. absurd (omega arith))

-- ---- the run that is handed, in the list of both

module _ (f : ℕ → Bool) (front back : List ℕ) where
  -- run stands in the list from off on. If anything stands before it, its first
  -- is less; if anything behind it, that is the back run, whose first is not
  pub record Lies (run : List ℕ) (off : ℕ) : Type 0 where
    pub fits : off + length run ≤ length front + length back
    pub same_there : (i : ℕ) → i < length run → get_or (front ++ back) (off + i) 0 ≡ get_or run i 0
    pub first_less : 0 < off → (0 < length run) × (f (get_or run 0 0) ≡ true)
    pub behind : off + length run < length front + length back
        → (off + length run ≡ length front) × (0 < length back) × (f (get_or back 0 0) ≡ false)

  pub handed_lies : Lies (handed_run f front back) (counted_from f front back)
  unfolding handed_run counted_from
  handed_lies =
      by-test₂ (begins f back) Lies
      (λ t. record {
        fits = omega arith;
        same_there = λ i lt. get_or-append-add front back i 0;
        first_less = λ more. begins-less f back (is_true _ t);
        behind = λ lt. absurd (omega arith);
      })
      (λ t. record {
        fits = omega arith;
        same_there = λ i lt. rw (zero-add i) (get_or-append front back 0 i lt);
        first_less = λ more. absurd (omega arith);
        behind = λ lt. (zero-add _, omega arith, begins_not f back (is_false _ t) (omega arith));
      })

  -- what stands right behind the front run is the back run's first
  pub seam : (p : ℕ) → p ≡ length front → get_or (front ++ back) p 0 ≡ get_or back 0 0
  seam p e = let at : p ≡ length front + 0 = omega arith in rw at (get_or-append-add front back 0 0)

  -- an edge of the run is one of the list
  pub edge_there : (run : List ℕ) (off low : ℕ) → Lies run off → Edge f run low → Edge f (front ++ back) (off + low)
  edge_there run off low l e = record {
    within = omega (arith, length-append front back, l.fits, e.within);
    before = λ i q.
        ⊎_elim
        (λ more. let at : i ≡ off + (low - 1) = omega arith in rw
        (at, l.same_there (low - 1) (omega (arith, e.within))) (e.before (low - 1) (omega arith)))
        (λ at_zero.
        let z : low ≡ 0 = omega arith in
        let k = l.first_less (omega arith) in
        absurd (not_both _ k.1 (subst (λ (j : ℕ). f (get_or run j 0) ≡ false) z (e.here (omega arith)))))
        (lt_or_ge 0 low);
    here = λ lt.
        ⊎_elim
        (λ inside. rw (l.same_there low inside) (e.here inside))
        (λ past.
        let whole : low ≡ length run = omega (arith, e.within) in
        let k = l.behind (omega (arith, length-append front back)) in
        rw (seam (off + low) (omega arith)) k.2)
        (lt_or_ge low (length run));
  }

  pub point_edge : Edge f (front ++ back) (point_of f front back)
  point_edge =
      subst (Edge f (front ++ back)) (point_handed f front back _ _ _ refl refl refl)
      (edge_there _ _ _ handed_lies (place_edge f (handed_run f front back)))
