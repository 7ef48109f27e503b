-- `copies::lists::copy_slice_reversed` meets its contract. Assumes nothing.
use Rattle.std.proofs.Common.{◌≡◌, ◌∙◌, sym, ap, arith, length, reverse, take, drop, ◌-◌}
use Rattle.std.proofs.lemmas.List.{length-take, length-drop, length-reverse, reverse-append}
use Rattle.stretches.proofs.Parts.{part-back, two_parts, cut}
use Rattle.rules.specs.Slots.{lay}
use Rattle.copies.proofs.lists.copy_slice_reversed.Goals as goal

pub returns-then-n-head_room : goal.returns-then-n-head_room
returns-then-n-head_room c =
    let many = length-reverse c.args.src.now in
    part-back _ _ _ _ c.args.dst.0 c.as_index-w.ensures (omega arith) c.copy_in_reversed.ensures

pub returns-else-n-head_room : goal.returns-else-n-head_room
returns-else-n-head_room c =
    let b = c.args.slots.now in
    let l = c.args.src.now in
    let d = c.args.dst.0 in
    let w = c.as_index-w in
    let left = length l - (length b - w.result) in
    let right = take (length l - left) (drop left l) in
    let many : length (reverse right) ≡ length b - w.result =
    length-reverse right ∙ simp (length-take, length-drop) (omega arith) in
    two_parts b _ _ (reverse right) _ d c.requires.0 (omega arith)
    (part-back b _ _ w.result d w.ensures (omega arith) c.copy_in_reversed-else-n-head_room.ensures)
    c.copy_in_reversed-else-n-head_room-2.ensures
    ∙ ap (lay b d) (sym (reverse-append (take left l) right) ∙ ap reverse (cut l left))
