-- `retains::move_kept` meets its contract. Assumes nothing.
use Rattle.std.proofs.Common.{arith}
use Rattle.retains.proofs.Stages.{kept_straight, moving_on, moving-count, moving-slots}
use Rattle.retains.proofs.move_kept.Goals as goal

pub loop-left-preserved : goal.loop-left-preserved
loop-left-preserved c =
    let s = c.loop-left.invariant in
    moving_on _ _ _ _ _ _ _ _ _ _ s _ _ (omega arith) c.as_index-start.ensures _
    (kept_straight _ _ _ _ _ c.sift-kept.ensures.value (omega (arith, s.long))) _ _ _ c.copy_slice.ensures
    c.wrap_add-into.ensures.place c.wrap_add-from-in-loop-left.ensures.place

pub returns-clause-value : goal.returns-clause-value
returns-clause-value c = moving-count _ _ _ _ _ _ _ _ _ _ c.loop-left.invariant (omega arith)

pub returns-clause-slots_after : goal.returns-clause-slots_after
returns-clause-slots_after c = moving-slots _ _ _ _ _ _ _ _ _ _ c.loop-left.invariant (omega arith)
