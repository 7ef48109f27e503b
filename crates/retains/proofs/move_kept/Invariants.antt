-- The loop's invariant: what is left to be stored gives the slots and the count in the end. Assumes nothing.
use Rattle.std.proofs.Common.{length}
use Rattle.conditions.specs.Tests.{test_of}
use Rattle.retains.proofs.Stages.{Moving}
use Rattle.rules.specs.Conditions.{those, meets}
use Rattle.rules.specs.Places.{place}
use Rattle.rules.specs.Slots.{list_of, lay}
use Rattle.retains.proofs.move_kept.Given as goal

abbrev pub invariant-loop-left : goal.invariant-loop-left
invariant-loop-left l =
    let kept =
    those (meets (test_of l.test))
    (list_of l.initial.slots (place (length l.initial.slots) l.initial.into.0 1) l.len) in
    Moving (meets (test_of l.test)) (length l.initial.slots) l.len (length kept)
    (lay l.initial.slots l.initial.into.0 kept) l.slots l.into.0 l.from.0 l.left l.moved

abbrev pub decreases-loop-left : goal.decreases-loop-left
decreases-loop-left l = l.left
