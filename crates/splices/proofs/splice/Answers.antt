-- `splices::splice` meets its contract. Assumes nothing.
use Rattle.std.proofs.Common.{arith, length, ◌-◌}
use Rattle.queue.proofs.Checks.{change_refused}
use Rattle.splices.proofs.Made.{spliced_good}
use Rattle.splices.proofs.Spliced.{range_refused, splice_full, spliced}
use Rattle.splices.proofs.splice.Goals as goal

pub returns-in_err-check_change : goal.returns-in_err-check_change
returns-in_err-check_change c =
    change_refused _ _ _ _ _ c.from_residual.ensures.1 c.in_err-check_change.ensures.number

pub returns-in_err-check_range : goal.returns-in_err-check_range
returns-in_err-check_range c =
    range_refused _ _ _ _ _ _ _ c.from_residual-in_err-check_range.ensures.1 c.in_ok-check_change.ensures.number
    c.in_err-check_range.ensures.number

pub returns-then-new-cap : goal.returns-then-new-cap
returns-then-new-cap c =
    splice_full _ _ _ _ _ c.in_ok-check_change.ensures.number c.in_ok-check_range.ensures.number (omega arith)

pub fill-requires : goal.fill-requires
fill-requires c =
    let a = c.args in
    let made = c.make_room-settled.ensures in
    let in_ring = spliced_good (length a.slots.now) a.q.head.0 a.start (a.end - a.start) (length a.values.now)
    (a.q.len - a.end) c.in_ok-check_change.ensures.fits.1 (omega arith) in
    omega (arith, in_ring, made.head, made.room.long, c.in_ok-check_change.ensures.fits)

pub returns : goal.returns
returns c =
    spliced _ _ _ _ _ c.in_ok-check_change.ensures.number c.in_ok-check_range.ensures.number _ _ _ _ _ _ (omega arith)
    c.make_room-settled.ensures c.fill.ensures c.head_over.ensures c.stepped.ensures
