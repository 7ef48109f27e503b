-- `copies::lists::copy_slice` meets its contract. Assumes nothing.
use Rattle.std.proofs.Common.{arith}
use Rattle.stretches.proofs.Parts.{part-back}
use Rattle.copies.proofs.lists.copy_slice.Goals as goal

pub returns-then-src-slots : goal.returns-then-src-slots
returns-then-src-slots c =
    part-back _ _ _ _ c.args.dst.0 c.as_index-w.ensures (omega arith) c.copy_in.ensures
