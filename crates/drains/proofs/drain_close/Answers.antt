-- `drains::drain_close` meets its contract. Assumes nothing.
use Rattle.std.proofs.Common.{sym}
use Rattle.drains.proofs.Closes.{close_refused, drain_closed}
use Rattle.drains.proofs.drain_close.Goals as goal

pub returns-in_err-check_drain : goal.returns-in_err-check_drain
returns-in_err-check_drain c =
    close_refused _ _ _ _ c.from_residual.ensures.1 c.in_err-check_drain.ensures.number

pub returns : goal.returns
returns c =
    drain_closed _ _ _ _ _ _ (sym c.in_ok-check_drain.ensures.number) c.close_hole-settled.ensures
    c.closed_record.ensures
