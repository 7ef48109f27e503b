-- `middle::remove_later` meets its contract. Assumes nothing.
use Rattle.std.proofs.Common.{arith}
use Rattle.middle.proofs.Room.{overlap_prior, later_closed}
use Rattle.rules.specs.Records.{held}
use Rattle.middle.proofs.removing.remove_later.Goals as goal

pub wrap_copy-requires-clause-one_overlap : goal.wrap_copy-requires-clause-one_overlap
wrap_copy-requires-clause-one_overlap c =
    overlap_prior _ _ _ (omega arith) (omega arith) _ _ _ (omega arith) c.wrap_add-at.ensures.place
    c.wrap_add-behind.ensures.place

pub returns : goal.returns
unfolding held
returns c =
    later_closed _ _ _ _ (omega arith) (omega arith) (omega arith) _ _ _ c.wrap_add-at.ensures.place
    c.wrap_add-behind.ensures.place c.wrap_copy.ensures
