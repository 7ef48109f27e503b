-- What `retain` keeps, told from the first rejected element on. Assumes nothing.
use Rattle.std.proofs.Common.{Bool, true, false, cond, List, [], ◌∷◌, ◌++◌, ◌≡◌, refl, ap}
use Rattle.std.proofs.Common.{ℕ, suc, ◌+◌, arith, take, drop}
use Rattle.std.specs.List.{prefix_len}
use Rattle.rules.proofs.Choices.{by-test₂}
use Rattle.rules.specs.Conditions.{those, behind}
use Rattle.rules.specs.Choices.{whether}

module _ (f : ℕ → Bool) where
  ahead : (v : ℕ) (l : List ℕ) → prefix_len f (v ∷ l) ≡ whether (f v) (suc (prefix_len f l)) 0
  unfolding whether
  ahead v l =
      elim (f v) as (λ t. cond t (1 + prefix_len f l) 0 ≡ whether t (suc (prefix_len f l)) 0)
      [ true ↦ omega arith | false ↦ refl ]

  -- what is kept: all before the first rejected one, and those that pass behind it
  pub those_split : (l : List ℕ) → those f l ≡ take (prefix_len f l) l ++ those f (drop (suc (prefix_len f l)) l)
  unfolding those
  those_split [] = refl
  those_split (v ∷ l) =
      rw (ahead v l) (by-test₂ (f v) (λ n m. m ≡ take n (v ∷ l) ++ those f (drop (suc n) (v ∷ l)))
      (λ t. ap (λ (m : List ℕ). v ∷ m) (those_split l)) (λ t. refl))

  pub behind_split : (l : List ℕ) → behind f l ≡ those f (drop (suc (prefix_len f l)) l)
  unfolding behind those
  behind_split [] = refl
  behind_split (v ∷ l) =
      rw (ahead v l) (by-test₂ (f v) (λ n m. m ≡ those f (drop n l)) (λ t. behind_split l) (λ t. refl))

  -- those of two lists, one behind the other
  pub those_append : (l m : List ℕ) → those f (l ++ m) ≡ those f l ++ those f m
  unfolding those whether
  those_append [] m = refl
  those_append (v ∷ l) m = grind (arith, those_append l m)
