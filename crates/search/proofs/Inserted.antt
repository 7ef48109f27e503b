-- A sorted list stays sorted where x is inserted behind all that
-- are less and before all that are greater. Assumes nothing.
use mathlib.Core.List.{List, ◌∷◌}
use mathlib.Core.Logic.{⊎_elim}
use mathlib.Core.Path.{◌≡◌, ◌∙◌, ap}
use Prim.Native.Nat.{ℕ, ◌≤◌, ◌<◌, ◌-◌, ◌+◌, suc}
use native.Mathlib.Omega.{arith}
use lib.ListN.{length, take, get_or, get_or-append, drop, length-append, length-drop}
use lib.Seq.{length-take-le, get_or-take, get_or_at, get_or-append-add, get_or-drop}
use Rattle.rules.proofs.Choices.{lt_or_ge}
use Rattle.rules.specs.Middle.{inserted}
use Rattle.search.specs.Sorted.{IsSorted}

module _ (l : List ℕ) (p x : ℕ) (in_l : p ≤ length l) where
  long : length (take p l) ≡ p
  long = length-take-le p l in_l

  -- what stands before x, x, and what stands behind
  at_before : (i : ℕ) → i < p → get_or (inserted l p x) i 0 ≡ get_or l i 0
  at_before i lt = get_or-append (take p l) _ 0 i (omega (arith, long)) ∙ get_or-take p l i 0 lt

  at_place : get_or (inserted l p x) p 0 ≡ x
  at_place = get_or_at (take p l) x (drop p l) 0 p long

  at_behind : (i : ℕ) → p < i → get_or (inserted l p x) i 0 ≡ get_or l (i - 1) 0
  at_behind i gt =
      let there : i ≡ length (take p l) + suc (i - 1 - p) = omega (arith, long) in
      let back : p + (i - 1 - p) ≡ i - 1 = omega arith in
      ap (λ (j : ℕ). get_or (inserted l p x) j 0) there
      ∙ get_or-append-add (take p l) (x ∷ drop p l) (suc (i - 1 - p)) 0
      ∙ get_or-drop p l (i - 1 - p) 0 ∙ ap (λ (j : ℕ). get_or l j 0) back

  long-inserted : length (inserted l p x) ≡ suc (length l)
  long-inserted = omega (arith, length-append (take p l) (x ∷ drop p l), long, length-drop p l)

  module _ (ordered : IsSorted l) (lesser : (i : ℕ) → i < p → get_or l i 0 < x)
      (greater-from : (i : ℕ) → p ≤ i → i < length l → x < get_or l i 0) where
    -- x, or what stands behind it, is at least what stands before
    behind_ok : (i j : ℕ) → i < j → p ≤ j → j < suc (length l)
        → get_or (inserted l p x) i 0 ≤ get_or (inserted l p x) j 0
    behind_ok i j lt ge in-j =
        ⊎_elim
        (λ at_j.
        let w = at_behind j at_j in
        ⊎_elim
        (λ early. omega (arith, at_before i early, w, ordered i (j - 1) (omega arith) (omega arith)))
        (λ late.
        ⊎_elim
        (λ at_i. omega (arith, at_behind i at_i, w, ordered (i - 1) (j - 1) (omega arith) (omega arith)))
        (λ here. let e : i ≡ p = omega arith in omega (
          arith,
          ap (λ (k : ℕ). get_or (inserted l p x) k 0) e,
          at_place,
          w,
          greater-from (j - 1) (omega arith) (omega arith),
        ))
        (lt_or_ge p i))
        (lt_or_ge i p))
        (λ here. let e : j ≡ p = omega arith in omega (
          arith,
          ap (λ (k : ℕ). get_or (inserted l p x) k 0) e,
          at_place,
          at_before i (omega arith),
          lesser i (omega arith),
        ))
        (lt_or_ge p j)

    pub sorted-inserted : IsSorted (inserted l p x)
    sorted-inserted i j lt in-j =
        let k : j < suc (length l) = omega (arith, long-inserted) in
        ⊎_elim
        (λ early. omega (arith, at_before i (omega arith), at_before j early, ordered i j lt (omega arith)))
        (λ late. behind_ok i j lt late k)
        (lt_or_ge j p)
