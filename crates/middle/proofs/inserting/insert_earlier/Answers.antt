-- `middle::insert_earlier` meets its contract. Assumes nothing.
use Rattle.std.proofs.Common.{arith}
use Rattle.middle.proofs.Room.{overlap_back, earlier}
use Rattle.rules.specs.Records.{held}
use Rattle.middle.proofs.inserting.insert_earlier.Goals as goal

pub wrap_copy-requires-clause-one_overlap : goal.wrap_copy-requires-clause-one_overlap
wrap_copy-requires-clause-one_overlap c =
    overlap_back _ _ _ (omega arith) (omega arith) _ c.wrap_sub-head.ensures.place

pub returns-clause-slots_after : goal.returns-clause-slots_after
unfolding held
returns-clause-slots_after c =
    earlier _ _ _ _ _ (omega arith) (omega arith) (omega arith) _ _ _ _ c.wrap_sub-head.ensures.place
    c.wrap_add-at.ensures.place c.as_index.ensures c.wrap_copy.ensures
