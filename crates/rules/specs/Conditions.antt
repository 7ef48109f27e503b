-- Tests of an element, for `retain`, the conditional pops and `partition_point`. Assumes nothing.
use Rattle.std.specs.Prelude.{Bool, not, false, List, [], ◌∷◌, ℕ, ltb, leb, eqb}
use Rattle.std.proofs.Math.Option.{Option, none, some}
use Rattle.rules.specs.Choices.{whether}

-- below k, at least k, equal to k, not equal to k
pub data Test : Type 0 where
  below at_least equal other : ℕ → Test

-- v meets the test
unfoldable pub meets : Test → ℕ → Bool
meets (below k) v = ltb v k
meets (at_least k) v = leb k v
meets (equal k) v = eqb v k
meets (other k) v = not (eqb v k)

-- there is an element, and it passes
unfoldable pub passes : {A : Type 0} → (A → Bool) → Option A → Bool
passes f none = false
passes f (some v) = f v

-- the elements that pass, in order
unfoldable pub those : {A : Type 0} → (A → Bool) → List A → List A
those f [] = []
those f (v ∷ l) = whether (f v) (v ∷ those f l) (those f l)

-- those that pass behind the first that does not
unfoldable pub behind : {A : Type 0} → (A → Bool) → List A → List A
behind f [] = []
behind f (v ∷ l) = whether (f v) (behind f l) (those f l)
