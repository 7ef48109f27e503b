-- What the answers of `binary_search` and `partition_point` mean.
-- b, r: the slots and the record of the queue. Assumes nothing.
use mathlib.Core.Bool.{Bool, true, false}
use mathlib.Core.List.{List}
use mathlib.Core.Logic.{⊎_elim, ◌≢◌}
use mathlib.Core.Path.{◌≡◌, refl, sym}
use Prim.Native.Nat.{ℕ, ◌<◌, ◌-◌, ◌≤◌, suc}
use native.Mathlib.Omega.{arith}
use borrow.Author.Tests.{lt-ltb, ltb-true, ltb-false}
use lib.ListN.{get_or, length}
use Rattle.rules.proofs.Choices.{lt_or_ge}
use Rattle.rules.specs.Conditions.{meets, below, Test}
use Rattle.rules.specs.Looks.{sees}
use Rattle.rules.specs.Middle.{insert_at}
use Rattle.rules.specs.Records.{Rec, held}
use Rattle.rules.specs.Rule.{after}
use Rattle.rules.specs.Runs.{front_run, back_run}
use Rattle.rules.specs.Search.{Spot, search_for, found_at, place_at, partition_by}
use Rattle.runs.proofs.Asks.{seen_is}
use Rattle.runs.proofs.Whole.{runs-held}
use Rattle.search.proofs.Edges.{Edge, not_both, point_edge}
use Rattle.search.proofs.Inserted.{sorted-inserted}
use Rattle.search.proofs.Spots.{Says, spot-says}
use Rattle.search.specs.Sorted.{parted, IsSorted}

-- ---- lists

-- an edge of a list that the test parts is where it parts
module _ (f : ℕ → Bool) (l : List ℕ) (ordered : parted f l) (p : ℕ) (e : Edge f l p) where
  all_before : (i : ℕ) → i < p → f (get_or l i 0) ≡ true
  all_before i lt =
      let last : f (get_or l (p - 1) 0) ≡ true = e.before (p - 1) (omega arith) in
      ⊎_elim (λ earlier. ordered i (p - 1) earlier (omega (arith, e.within)) last)
      (λ here. let at : i ≡ p - 1 = omega arith in rw at last) (lt_or_ge i (p - 1))

  none_from : (i : ℕ) → p ≤ i → i < length l → f (get_or l i 0) ≡ false
  none_from i ge lt = go (f (get_or l i 0)) refl
    where
      go : (t : Bool) → f (get_or l i 0) ≡ t → f (get_or l i 0) ≡ false
      go false q = q
      go true q =
          absurd (not_both (f (get_or l p 0))
          (⊎_elim (λ later. ordered p i later lt q) (λ here. let at : p ≡ i = omega arith in rw at q)
          (lt_or_ge p i)) (e.here (omega arith)))

sorted-parted : (x : ℕ) (l : List ℕ) → IsSorted l → parted (meets (below x)) l
unfolding meets
sorted-parted x l s i j lt in_l q = lt-ltb (get_or l i 0) x (omega (arith, s i j lt in_l, ltb-true (get_or l j 0) x q))

-- ---- the queue

module _ (b : List ℕ) (r : Rec) where
  -- what an answer says of the list
  said : (x : ℕ) (p : Spot) → search_for b r x ≡ sees p → Says x (held b r) p
  unfolding search_for
  said x p q =
      let k = seen_is _ p _ (sym q) in
      rw k.1 (rw (runs-held b r k.0) at (spot-says x (front_run b r 0 r.len) (back_run b r 0 r.len)))

  -- A FOUND POSITION HOLDS X, in any list
  pub found_holds : (x p : ℕ) → search_for b r x ≡ sees (found_at p)
      → (p < length (held b r)) × (get_or (held b r) p 0 ≡ x)
  unfolding Says
  found_holds x p q = said x (found_at p) q

  -- in any list, the element before a place to insert is less than x, and the one at it is greater
  pub place_fits : (x p : ℕ) → search_for b r x ≡ sees (place_at p)
      → (p ≤ length (held b r)) × ((i : ℕ) → suc i ≡ p → get_or (held b r) i 0 < x)
      × (p < length (held b r) → x < get_or (held b r) p 0)
  unfolding Says meets
  place_fits x p q =
      let k = said x (place_at p) q in (
        k.0.within,
        (λ i e. ltb-true _ _ (k.0.before i e)),
        λ lt. let ge = ltb-false (get_or (held b r) p 0) x (k.0.here lt) in let ne = k.1 lt in omega arith,
      )

  module _ (x p : ℕ) (ordered : IsSorted (held b r)) (q : search_for b r x ≡ sees (place_at p)) where
    -- AN INSERTION PLACE KEEPS THE ORDER: in a sorted list all before it are less than x
    pub all_less : (i : ℕ) → i < p → get_or (held b r) i 0 < x
    unfolding Says meets
    all_less i lt = ltb-true _ _ (all_before (meets (below x)) (held b r) (sorted-parted x (held b r) ordered) p
        (said x (place_at p) q).0 i lt)

    -- and all from there on are greater
    pub all_greater : (i : ℕ) → p ≤ i → i < length (held b r) → x < get_or (held b r) i 0
    all_greater i ge lt =
        let k = (place_fits x p q).2 (omega arith) in
        ⊎_elim (λ later. omega (arith, ordered p i later lt)) (λ here. let at : i ≡ p = omega arith in rw at k)
        (lt_or_ge p i)

    -- so x stands nowhere
    pub nowhere : (i : ℕ) → i < length (held b r) → get_or (held b r) i 0 ≢ x
    nowhere i lt e = ⊎_elim (λ earlier. omega (arith, all_less i earlier))
        (λ from-p. omega (arith, all_greater i from-p lt)) (lt_or_ge i p)

    -- and with x inserted there the list is sorted
    pub stays-sorted : IsSorted (after (insert_at p x) (held b r))
    unfolding insert_at
    stays-sorted = sorted-inserted (held b r) p x (place_fits x p q).0 ordered all_less all_greater

  -- ALL BEFORE A PARTITION POINT MEET THE TEST, AND NONE FROM THERE ON DOES, in a list that the test parts
  module _ (t : Test) (p : ℕ) (q : partition_by b r t ≡ sees p) where
    point_said : Edge (meets t) (held b r) p
    unfolding partition_by
    point_said =
        let k = seen_is _ p _ (sym q) in
        rw k.1 (rw (runs-held b r k.0) at
        (point_edge (meets t) (front_run b r 0 r.len) (back_run b r 0 r.len)))

    pub point_in : p ≤ length (held b r)
    point_in = point_said.within

    pub all_meet : parted (meets t) (held b r) → (i : ℕ) → i < p → meets t (get_or (held b r) i 0) ≡ true
    all_meet ordered = all_before (meets t) (held b r) ordered p point_said

    pub none_meets : parted (meets t) (held b r) → (i : ℕ) → p ≤ i → i < length (held b r)
        → meets t (get_or (held b r) i 0) ≡ false
    none_meets ordered = none_from (meets t) (held b r) ordered p point_said
