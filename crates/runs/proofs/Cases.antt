-- The two runs of a range, case by case: an empty range, one that ends
-- before the slots do, one that goes on from slot 0. Assumes nothing.
use mathlib.Core.Logic.{◌≢◌}
use mathlib.Core.Path.{◌≡◌}
use Prim.Native.Nat.{ℕ, ◌+◌, ◌-◌, ◌≤◌, ◌<◌}
use borrow.Author.Tests.{eq-eqb, ne_eqb, le-leb, lt-leb}
use lib.Dec.{eqb, eqb→eq, leb, leb→le, nleb→lt}
use Rattle.rules.proofs.Choices.{by_test, neqb→ne}
use Rattle.rules.specs.Places.{place}
use Rattle.rules.specs.Runs.{TwoRuns, two_runs, from_to, runs}
use Rattle.rules.specs.Choices.{whether}

-- 0..0 and 0..0
abbrev pub none_of : TwoRuns
none_of = two_runs (from_to 0 0) (from_to 0 0)

-- from w on n slots, which there are
abbrev pub one_of : ℕ → ℕ → TwoRuns
one_of w n = two_runs (from_to w (w + n)) (from_to 0 0)

-- from w on all c slots, and the rest of n from slot 0 on
abbrev pub two_of : ℕ → ℕ → ℕ → TwoRuns
two_of c w n = two_runs (from_to w c) (from_to 0 (n - (c - w)))

module _ (c h s e : ℕ) where
  pub runs_none : s ≡ e → none_of ≡ runs c h s e
  unfolding runs whether
  runs_none z = rw (eq-eqb s e z)

  pub runs_one : s ≢ e → e - s ≤ c - place c h s → one_of (place c h s) (e - s) ≡ runs c h s e
  unfolding runs whether
  runs_one ne fits = rw (ne_eqb s e ne, le-leb _ _ fits)

  pub runs_two : s ≢ e → c - place c h s < e - s → two_of c (place c h s) (e - s) ≡ runs c h s e
  unfolding runs whether
  runs_two ne over = rw (ne_eqb s e ne, lt-leb _ _ over)

  -- what holds in each case holds of the two runs
  pub by_runs : (P : TwoRuns → Type 0) → (s ≡ e → P none_of)
      → (s ≢ e → e - s ≤ c - place c h s → P (one_of (place c h s) (e - s)))
      → (s ≢ e → c - place c h s < e - s → P (two_of c (place c h s) (e - s))) → P (runs c h s e)
  unfolding runs
  by_runs P at_none at_one at-two =
      by_test (eqb s e) P (λ t. at_none (eqb→eq s e t))
      (λ t. by_test (leb (e - s) (c - place c h s)) P (λ u. at_one (neqb→ne s e t) (leb→le _ _ u))
      (λ u. at-two (neqb→ne s e t) (nleb→lt _ _ u)))
