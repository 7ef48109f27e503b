-- `middle::remove_earlier` meets its contract. Assumes nothing.
use Rattle.std.proofs.Common.{arith}
use Rattle.middle.proofs.Room.{overlap_on, earlier_closed}
use Rattle.rules.specs.Records.{held}
use Rattle.middle.proofs.removing.remove_earlier.Goals as goal

pub wrap_copy-requires-clause-one_overlap : goal.wrap_copy-requires-clause-one_overlap
wrap_copy-requires-clause-one_overlap c =
    overlap_on _ _ _ (omega arith) (omega arith) _ c.next-head.ensures.place

pub returns-clause-slots_after : goal.returns-clause-slots_after
unfolding held
returns-clause-slots_after c =
    earlier_closed _ _ _ _ (omega arith) (omega arith) (omega arith) _ _ c.next-head.ensures.place c.wrap_copy.ensures
