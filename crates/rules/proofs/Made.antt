-- Where elements are numbers, those from outside are the numbers themselves. Assumes nothing.
use mathlib.Core.List.{List, map, [], ◌∷◌}
use mathlib.Core.Path.{◌≡◌, refl, ap}
use Prim.Native.Nat.{ℕ}
use Rattle.rules.specs.Rule.{numbers}

pub map-brought : (vs : List ℕ) → map numbers.brought vs ≡ vs
map-brought [] = refl
map-brought (v ∷ vs) = ap (λ (l : List ℕ). v ∷ l) (map-brought vs)
