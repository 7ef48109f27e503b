-- `copies::lists::copy_slice_apart` meets its contract. Assumes nothing.
use Rattle.std.proofs.Common.{◌∙◌, ap, arith, length, ◌-◌}
use Rattle.std.proofs.lemmas.List.{length-take-le}
use Rattle.stretches.proofs.Parts.{part-back, two_parts, cut}
use Rattle.rules.specs.Slots.{lay}
use Rattle.copies.proofs.lists.copy_slice_apart.Goals as goal

pub returns : goal.returns
returns c =
    let b = c.args.slots.now in
    let d = c.args.dst.0 in
    let w = c.as_index-w in
    let r = length b - w.result in
    let many = length-take-le r c.args.src.now (omega arith) in
    two_parts b _ _ _ _ d c.requires.dst_in_bounds.0 (omega arith)
    (part-back b _ _ w.result d w.ensures (omega arith) c.copy_in.ensures) c.copy_in-2.ensures
    ∙ ap (lay b d) (cut c.args.src.now r)
