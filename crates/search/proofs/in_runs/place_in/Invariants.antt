-- `search::in_runs::place_in` meets its contract: each step leaves the same end. Assumes nothing.
use Prim.Native.Nat.{◌≤◌, ◌-◌}
use lib.ListN.{length}
use Rattle.conditions.specs.Tests.{test_of}
use Rattle.rules.specs.Conditions.{meets}
use Rattle.search.proofs.Steps.{Halves}
use Rattle.search.proofs.in_runs.place_in.Given as goal

abbrev pub invariant-loop-high : goal.invariant-loop-high
invariant-loop-high l = (l.low ≤ l.high) × (l.high ≤ length l.run) × Halves (meets (test_of l.test)) l.run l.low l.high

abbrev pub decreases-loop-high : goal.decreases-loop-high
decreases-loop-high l = l.high - l.low
