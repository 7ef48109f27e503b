-- Lists in stretches, and two of them cut at the same places. Assumes nothing.
use Rattle.std.specs.Prelude.{◌≡◌, List, [], ◌∷◌, ◌++◌, ℕ, ◌<◌, length}
use Rattle.std.specs.Borrow.{Bor}

-- one stretch behind the other
abbrev pub joined : List (Bor (List ℕ)) → List ℕ
joined [] = []
joined (s ∷ ss) = s.now ++ joined ss

-- as many stretches, and two that stand at one place are as long, or behind the shorter nothing comes
abbrev pub CutAlike : List (Bor (List ℕ)) → List (Bor (List ℕ)) → Type 0
CutAlike [] [] = Unit {0}
CutAlike [] (t ∷ ts) = ⊥
CutAlike (s ∷ ss) [] = ⊥
CutAlike (s ∷ ss) (t ∷ ts) =
    (length s.now < length t.now → joined ss ≡ []) × (length t.now < length s.now → joined ts ≡ []) × CutAlike ss ts
