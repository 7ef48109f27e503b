-- The run that the search is handed, by what is known of the back run's first element. Assumes nothing.
use mathlib.Core.Bool.{Bool, false, true}
use mathlib.Core.List.{List, [], ◌∷◌}
use mathlib.Core.Path.{◌≡◌, ap, ◌∙◌}
use Prim.Native.Nat.{ℕ, ◌<◌}
use native.Mathlib.Nat.{not-suc-le-zero}
use native.Mathlib.Omega.{arith}
use denote.Ref.{Bor}
use lib.ListN.{length, get_or}
use Rattle.std.specs.List.{slice_get}
use Rattle.std.specs.Option.{MatchOption, option_copied}
use Rattle.std.specs.Prelude.{Option, None, Some}
use Rattle.rules.specs.Choices.{whether}
use Rattle.search.specs.Handed.{begins, handed_run, counted_from}

module _ (f : ℕ → Bool) where
  pub begins-less : (s : List ℕ) → begins f s ≡ true → (0 < length s) × (f (get_or s 0 0) ≡ true)
  unfolding begins
  begins-less [] e = let z : ◌≡◌ {A = ℕ} 0 1 = cc in absurd (omega arith)
  begins-less (v ∷ s) e = (omega arith, e)

  pub begins_not : (s : List ℕ) → begins f s ≡ false → 0 < length s → f (get_or s 0 0) ≡ false
  unfolding begins
  begins_not [] e lt = absurd (not-suc-le-zero lt)
  begins_not (v ∷ s) e lt = e

  module _ (front back : List ℕ) where
    module _ (less : begins f back ≡ true) where
      pub back-handed : back ≡ handed_run f front back
      unfolding handed_run whether
      back-handed = rw less

      pub back_counted : length front ≡ counted_from f front back
      unfolding counted_from whether
      back_counted = rw less

    module _ (not-less : begins f back ≡ false) where
      pub front-handed : front ≡ handed_run f front back
      unfolding handed_run whether
      front-handed = rw not-less

      pub front_counted : 0 ≡ counted_from f front back
      unfolding counted_from whether
      front_counted = rw not-less

-- what a test of the first element, if there is one, answered
pub begins_told : (f : ℕ → Bool) (s : List ℕ) (o : Option (Bor ℕ)) (r : Bool) {P : Bor ℕ → Type 0}
    → option_copied o ≡ slice_get s 0 → MatchOption o (r ≡ false) P → ((x : Bor ℕ) → P x → r ≡ f x.now) → r ≡ begins f s
unfolding begins
begins_told f [] None r e m told = m
begins_told f [] (Some x) r e m told = cc
begins_told f (v ∷ s) None r e m told = cc
begins_told f (v ∷ s) (Some x) r e m told = let h : x.now ≡ v = cc in told x m ∙ ap f h
