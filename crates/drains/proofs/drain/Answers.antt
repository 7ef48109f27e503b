-- `drains::drain` meets its contract. Assumes nothing.
use Rattle.std.proofs.Common.{sym}
use Rattle.drains.proofs.Draws.{open_refused, open_first, open_range, opens}
use Rattle.drains.proofs.drain.Goals as goal

pub returns-in_err-check_change : goal.returns-in_err-check_change
returns-in_err-check_change c =
    open_refused _ _ _ _ _ _ c.from_residual.ensures.1
    (open_first _ _ _ _ _ c.in_err-check_change.ensures.number)

pub returns-in_err-check_range : goal.returns-in_err-check_range
returns-in_err-check_range c =
    open_refused _ _ _ _ _ _ c.from_residual-in_err-check_range.ensures.1
    (open_range _ _ _ _ (sym c.in_ok-check_change.ensures.number) _ c.in_err-check_range.ensures.number)

pub returns : goal.returns
returns c =
    opens _ _ _ _ (sym c.in_ok-check_change.ensures.number) _ (sym c.in_ok-check_range.ensures.number)
    c.opened_drain.ensures
