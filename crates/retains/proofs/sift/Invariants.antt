-- The loop's invariant: those kept so far stand in the front of `held`. Assumes nothing.
use Rattle.std.proofs.Common.{◌≡◌, ◌≤◌, take}
use Rattle.conditions.specs.Tests.{test_of}
use Rattle.rules.specs.Conditions.{meets, those}
use Rattle.retains.proofs.sift.Given as goal

abbrev pub invariant-loop-x : goal.invariant-loop-x
invariant-loop-x l =
    (l.kept ≤ l.x-index) × (take l.kept l.held ≡ those (meets (test_of l.test)) (take l.x-index l.part))
