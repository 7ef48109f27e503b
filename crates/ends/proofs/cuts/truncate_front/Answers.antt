-- `ends::truncate_front` meets its contract. Assumes nothing.
use Rattle.std.proofs.Common.{sym}
use Rattle.ends.proofs.cuts.Laws.{front_kept, front_cut}
use Rattle.queue.proofs.Checks.{change_refused}
use Rattle.ends.proofs.cuts.truncate_front.Goals as goal

pub returns-in_err-check_change : goal.returns-in_err-check_change
returns-in_err-check_change c =
    change_refused _ _ _ _ _ c.from_residual.ensures.1 c.in_err-check_change.ensures.number

pub returns-then-n-len : goal.returns-then-n-len
returns-then-n-len c = front_kept _ _ (sym c.in_ok-check_change.ensures.number) _ c.if-n-len.true

pub returns : goal.returns
returns c =
    front_cut _ _ (sym c.in_ok-check_change.ensures.number) _ _ _ c.if-n-len.false c.wrap_add-head.ensures.place
    c.stepped.ensures
