-- `copies::lists::fill_slots` meets its contract. Assumes nothing.
use Rattle.std.proofs.Common.{◌≡◌, ◌∙◌, ap, arith, length, replicate, ◌+◌, ◌-◌}
use Rattle.std.proofs.lemmas.List.{length-replicate, replicate-append-replicate}
use Rattle.stretches.proofs.Parts.{part-back, two_parts}
use Rattle.rules.specs.Slots.{lay}
use Rattle.copies.proofs.lists.fill_slots.Goals as goal

pub returns-then-len-head_room : goal.returns-then-len-head_room
returns-then-len-head_room c =
    let many = length-replicate c.args.len c.args.v in
    part-back _ _ _ _ c.args.dst.0 c.as_index-w.ensures (omega arith) c.fill.ensures

pub returns-else-len-head_room : goal.returns-else-len-head_room
returns-else-len-head_room c =
    let b = c.args.slots.now in
    let v = c.args.v in
    let w = c.as_index-w in
    let r = length b - w.result in
    let many = length-replicate r v in
    let whole : r + (c.args.len - r) ≡ c.args.len = omega arith in
    two_parts b _ _ (replicate r v) _ c.args.dst.0 c.requires.0 (omega arith)
    (part-back b _ _ w.result _ w.ensures (omega arith) c.fill-else-len-head_room.ensures)
    c.fill-else-len-head_room-2.ensures
    ∙ ap (lay b c.args.dst.0) (replicate-append-replicate r _ v ∙ ap (λ k. replicate k v) whole)
