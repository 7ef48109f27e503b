-- `holes::Hole::shorter_side` meets its contract. Assumes nothing.
use Rattle.std.proofs.Common.{arith}
use Rattle.holes.proofs.Closes.{earlier_side, later_side}
use Rattle.holes.proofs.Hole.shorter_side.Goals as goal

pub returns-then-before-self : goal.returns-then-before-self
returns-then-before-self c = earlier_side _ _ _ _ _ _ _ c.if-before-self.true c.wrap_add-next.ensures.place

pub returns : goal.returns
returns c = later_side _ _ _ _ _ _ _ _ (omega arith) c.wrap_add.ensures.place c.wrap_add-2.ensures.place
