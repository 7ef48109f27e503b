-- `lines::lines::put_text` meets its contract. Assumes nothing.
use Rattle.std.proofs.Common.{arith, refl}
use Rattle.images.proofs.Bytes.{part_sets}
use Rattle.lines.proofs.lines.put_text.Goals as goal

pub returns : goal.returns
returns c = record {
  stands = rw c.copy_from_slice.ensures.after (part_sets _ c.args.text.now _ _ (omega arith) c.requires);
  next = refl;
}
