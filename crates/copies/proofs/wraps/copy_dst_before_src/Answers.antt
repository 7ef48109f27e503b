-- `copies::wraps::copy_dst_before_src` meets its contract: what
-- is copied later was not overwritten before. Assumes nothing.
use Rattle.std.proofs.Common.{arith}
use Rattle.copies.proofs.Overlaps.{dst_wraps, up_both}
use Rattle.stretches.proofs.Order.{way, on, over, up}
use Rattle.copies.proofs.wraps.copy_dst_before_src.Goals as goal

pub returns-then-src_pre_wrap_len-len : goal.returns-then-src_pre_wrap_len-len
returns-then-src_pre_wrap_len-len c =
    let k = dst_wraps _ _ _ _ _ _ c.requires.one_wraps c.as_index.ensures c.as_index-2.ensures
    c.if-src_pre_wrap_len-len.true in
    let w = way _ _ _ c.requires.src_in_bounds.0 c.requires.src_in_bounds.1 in
    up c.args.slots.now _ _ _ c.requires.src_in_bounds.0 w.0 w.1 _ _ _ _ _ _ c.args.len
    c.copy.ensures c.copy-then-src_pre_wrap_len-len.ensures
    (on (omega arith)) (over (omega arith)) (omega arith) c.requires.len_bound

pub returns-then-dst_pre_wrap_len-len : goal.returns-then-dst_pre_wrap_len-len
returns-then-dst_pre_wrap_len-len c =
    let w = way _ _ _ c.requires.src_in_bounds.0 c.requires.src_in_bounds.1 in
    up c.args.slots.now _ _ _ c.requires.src_in_bounds.0 w.0 w.1 _ _ _ _ _ _ c.args.len
    c.copy-then-dst_pre_wrap_len-len.ensures c.copy-then-dst_pre_wrap_len-len-2.ensures
    (over (omega arith)) (on (omega arith)) (omega arith) c.requires.len_bound

pub returns-else-dst_pre_wrap_len-len : goal.returns-else-dst_pre_wrap_len-len
returns-else-dst_pre_wrap_len-len c =
    let inside = c.requires.src_in_bounds in
    up_both c.args.slots.now _ _ _ _ _ _ _ _ _ _ _ _ inside.0 inside.1 c.requires.len_bound
    c.as_index.ensures c.as_index-2.ensures c.if-src_pre_wrap_len-len.false c.if-dst_pre_wrap_len-len.false
    c.copy-else-dst_pre_wrap_len-len.ensures
    c.zero-else-dst_pre_wrap_len-len.ensures
    c.add-else-dst_pre_wrap_len-len.ensures
    c.copy-else-dst_pre_wrap_len-len-2.ensures
    c.from_arbitrary_number.ensures c.zero-else-dst_pre_wrap_len-len-2.ensures
    c.copy-else-dst_pre_wrap_len-len-3.ensures
