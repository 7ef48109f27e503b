-- `middle::insert_later` meets its contract. Assumes nothing.
use Rattle.std.proofs.Common.{arith}
use Rattle.middle.proofs.Room.{overlap_next, later}
use Rattle.rules.specs.Records.{held}
use Rattle.middle.proofs.inserting.insert_later.Goals as goal

pub wrap_copy-requires-clause-one_overlap : goal.wrap_copy-requires-clause-one_overlap
wrap_copy-requires-clause-one_overlap c =
    overlap_next _ _ _ (omega arith) (omega arith) _ _ _ (omega arith) c.wrap_add-at.ensures.place
    c.wrap_add-behind.ensures.place

pub returns : goal.returns
unfolding held
returns c =
    later _ _ _ _ _ (omega arith) (omega arith) (omega arith) _ _ _ _ c.wrap_add-at.ensures.place
    c.wrap_add-behind.ensures.place c.as_index.ensures c.wrap_copy.ensures
