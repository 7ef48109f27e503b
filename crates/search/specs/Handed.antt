-- The run that the search is handed. Assumes nothing.
use Rattle.std.specs.Prelude.{Bool, false, List, [], ◌∷◌, ℕ, length}
use Rattle.rules.specs.Choices.{whether}

-- there is a first element, and it passes
unfoldable pub begins : (ℕ → Bool) → List ℕ → Bool
begins f [] = false
begins f (v ∷ s) = f v

-- the back run where its first is less; where it is greater, or there is no back run, the front run
unfoldable pub handed_run : (ℕ → Bool) → List ℕ → List ℕ → List ℕ
handed_run is_less front back = whether (begins is_less back) back front

-- answers in the back run count on from the front run's length
unfoldable pub counted_from : (ℕ → Bool) → List ℕ → List ℕ → ℕ
counted_from is_less front back = whether (begins is_less back) (length front) 0
