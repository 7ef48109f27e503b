-- What an answer of the search says, in any list. Assumes nothing.
use mathlib.Core.Bool.{false, not, ◌&&◌, Bool, true}
use mathlib.Core.List.{List, ◌++◌}
use mathlib.Core.Logic.{◌≢◌, ⊎_elim}
use mathlib.Core.Path.{◌≡◌, sym, ◌∙◌, subst, refl}
use Prim.Native.Nat.{ℕ, ◌<◌, ◌≤◌, ◌+◌}
use native.Mathlib.Omega.{arith}
use borrow.Author.Tests.{eqb-false, lt-ltb, eq-eqb, eqb-true}
use lib.Dec.{T, ltb, eqb, ltb→lt, eqb→eq}
use lib.ListN.{length, get_or, length-append}
use Rattle.rules.proofs.Refusals.{T_and}
use Rattle.rules.proofs.Choices.{lt_or_ge, by_test}
use Rattle.rules.specs.Conditions.{meets, below, equal}
use Rattle.rules.specs.Search.{Spot, found_at, place_at, spot_in, place_in, spot_of}
use Rattle.search.proofs.Edges.{Edge, Lies, seam, place_edge, edge_there, handed_lies}
use Rattle.search.proofs.Handed.{begins_not, begins-less}
use Rattle.search.proofs.Searches.{spot_tie, spot-handed}
use Rattle.search.specs.Handed.{begins}

-- found: x stands there. A place: what stands before it is less than x, and what stands at it is greater
unfoldable pub Says : ℕ → List ℕ → Spot → Type 0
Says x l (found_at p) = (p < length l) × (get_or l p 0 ≡ x)
Says x l (place_at p) = Edge (meets (below x)) l p × (p < length l → get_or l p 0 ≢ x)

module _ (x : ℕ) (front back : List ℕ) where
  -- the back run does not begin with x, and run is the one that is handed
  module _ (no_tie : begins (meets (equal x)) back ≡ false) (run : List ℕ) (off : ℕ)
      (l : Lies (meets (below x)) front back run off) where
    first_other : 0 < length back → get_or back 0 0 ≢ x
    unfolding meets
    first_other there = eqb-false _ _ (begins_not (meets (equal x)) back no_tie there)

    unlike : (low : ℕ) → low ≤ length run → T (not (ltb low (length run) && eqb (get_or run low 0) x))
        → off + low < length (front ++ back) → get_or (front ++ back) (off + low) 0 ≢ x
    unlike low le t lt is_x =
        ⊎_elim
        (λ inside. absurd (rw (
          lt-ltb low (length run) inside,
          eq-eqb (get_or run low 0) x (sym (l.same_there low inside) ∙ is_x),
        ) at t))
        (λ past.
        let whole : low ≡ length run = omega arith in
        let k = l.behind (omega (arith, length-append front back)) in
        first_other k.1 (sym (seam (meets (below x)) front back (off + low) (omega arith)) ∙ is_x))
        (lt_or_ge low (length run))

    run-says : Says x (front ++ back) (spot_in x run off)
    unfolding Says spot_in meets
    run-says =
        let low = place_in (meets (below x)) run in
        let e = place_edge (meets (below x)) run in
        by_test (ltb low (length run) && eqb (get_or run low 0) x) (Says x (front ++ back))
        (λ t.
        let k = T_and (ltb low (length run)) _ t in
        let lt : low < length run = ltb→lt _ _ k.0 in
        (omega (arith, length-append front back, l.fits), l.same_there low lt ∙ eqb→eq _ _ k.1))
        (λ t. (edge_there (meets (below x)) front back run off low l e, unlike low e.within t))

  says_by : (t : Bool) → begins (meets (equal x)) back ≡ t → Says x (front ++ back) (spot_of x front back)
  unfolding Says meets
  says_by true tie =
      let k = begins-less (meets (equal x)) back tie in
      subst (Says x (front ++ back)) (spot_tie x front back tie) (
        omega (arith, length-append front back),
        seam (meets (below x)) front back (length front) refl
            ∙ eqb-true _ _ k.1,
      )
  says_by false no_tie =
      subst (Says x (front ++ back)) (spot-handed x front back _ _ refl refl no_tie)
      (run-says no_tie _ _ (handed_lies (meets (below x)) front back))

  pub spot-says : Says x (front ++ back) (spot_of x front back)
  spot-says = says_by (begins (meets (equal x)) back) refl
