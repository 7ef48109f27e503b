-- `splices::make_room` meets its contract. Assumes nothing.
use Rattle.std.proofs.Common.{arith}
use Rattle.splices.proofs.Made.{by_tail, by_hole}
use Rattle.splices.proofs.make_room.Goals as goal

pub returns-then-new-drained : goal.returns-then-new-drained
returns-then-new-drained c =
    by_tail _ _ _ _ _ _ _ (omega arith) (omega arith) (omega arith) c.if-new-drained.true c.move_elements.ensures

pub returns : goal.returns
returns c =
    by_hole _ _ _ _ _ _ c.if-new-drained.false _ _ _ c.requires.fits.1 (omega arith) c.close_hole.ensures
