-- The halving in the code: its first state, one step up or down, and its last. Assumes nothing.
use mathlib.Core.Bool.{Bool, true, false}
use mathlib.Core.List.{List}
use mathlib.Core.Path.{◌≡◌, refl}
use Prim.Native.Nat.{ℕ, ◌-◌, ◌≤◌, zero, suc, ◌<◌, ◌+◌}
use native.Mathlib.Omega.{arith}
use borrow.Author.Tests.{le-ltb, lt-ltb}
use lib.ListN.{length, get_or}
use Rattle.rules.specs.Search.{halving, place_in, middle}
use Rattle.rules.specs.Choices.{whether}

module _ (f : ℕ → Bool) (s : List ℕ) where
  -- some number of steps that is enough from low and high on ends where the whole halving does
  abbrev pub Halves : ℕ → ℕ → Type 0
  Halves low high = (k : ℕ) × (high - low ≤ k) × (halving k f s low high ≡ place_in f s)

  pub starts : Halves 0 (length s)
  unfolding place_in
  starts = (length s, omega arith, refl)

  module _ (low high : ℕ) where
    pub ended : high ≤ low → Halves low high → low ≡ place_in f s
    unfolding halving whether
    ended done (zero, enough, e) = e
    ended done (suc k, enough, e) = rw (le-ltb low high done) at e

    pub goes_up : low < high → f (get_or s (middle low high) 0) ≡ true → Halves low high
        → Halves (middle low high + 1) high
    unfolding halving whether
    goes_up lt is-less (zero, enough, e) = absurd (omega arith)
    goes_up lt is-less (suc k, enough, e) = (k, omega arith, rw (lt-ltb low high lt, is-less) at e)

    pub goes_down : low < high → f (get_or s (middle low high) 0) ≡ false → Halves low high
        → Halves low (middle low high)
    unfolding halving whether
    goes_down lt not-less (zero, enough, e) = absurd (omega arith)
    goes_down lt not-less (suc k, enough, e) = (k, omega arith, rw (lt-ltb low high lt, not-less) at e)
