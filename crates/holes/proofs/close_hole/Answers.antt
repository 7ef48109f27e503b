-- `holes::close_hole` meets its contract. Assumes nothing.
use Rattle.std.proofs.Common.{arith}
use Rattle.holes.proofs.Closes.{no_hole, side_can_move, side-moved}
use Rattle.holes.proofs.close_hole.Goals as goal

pub returns-then-hole-eq0 : goal.returns-then-hole-eq0
returns-then-hole-eq0 c = no_hole _ _ _ _ _ _ c.if-hole-eq0.true

pub wrap_copy-requires : goal.wrap_copy-requires
wrap_copy-requires c =
    let can = side_can_move c.args.slots.now _ _ _ _ _ _ c.shorter_side-side.ensures (omega arith) c.requires.1
    c.requires.2 in
    record { src_in_bounds = can.0; one_overlap = can.1 }

pub returns : goal.returns
returns c =
    side-moved c.args.slots.now _ _ _ _ _ _ c.shorter_side-side.ensures c.if-hole-eq0.false _ c.wrap_copy.ensures
