-- `comparisons::in_runs::stands_in` meets its contract: the runs passed, and the elements passed of the run at hand,
-- are not x. Assumes nothing.
use mathlib.Core.Bool.{false}
use mathlib.Core.Logic.{◌⊎◌}
use mathlib.Core.Path.{◌≡◌}
use Prim.Native.Nat.{ℕ, ◌≤◌, ◌<◌}
use lib.ListN.{get_or}
use Rattle.rules.specs.Looks.{has}
use Rattle.comparisons.proofs.in_runs.stands_in.Given as goal

abbrev pub invariant-loop-run : goal.invariant-loop-run
invariant-loop-run l = record {
  front : 1 ≤ l.run-index → has l.x l.runs.front.now ≡ false;
  back : 2 ≤ l.run-index → has l.x l.runs.back.now ≡ false;
}

abbrev pub invariant-loop-v : goal.invariant-loop-v
invariant-loop-v l = record {
  at : ((l.run-index ≡ 0) × (l.run ≡ l.runs.front.now)) ⊎ ((l.run-index ≡ 1) × (l.run ≡ l.runs.back.now));
  passed : (k : ℕ) → k < l.v-index → get_or l.run k 0 ≡ l.x → ⊥;
}
