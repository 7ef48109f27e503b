-- `ends::truncate` meets its contract. Assumes nothing.
use Rattle.std.proofs.Common.{sym}
use Rattle.ends.proofs.cuts.Laws.{all_kept, back_cut}
use Rattle.queue.proofs.Checks.{change_refused}
use Rattle.ends.proofs.cuts.truncate.Goals as goal

pub returns-in_err-check_change : goal.returns-in_err-check_change
returns-in_err-check_change c =
    change_refused _ _ _ _ _ c.from_residual.ensures.1 c.in_err-check_change.ensures.number

pub returns-then-n-q : goal.returns-then-n-q
returns-then-n-q c = all_kept _ _ (sym c.in_ok-check_change.ensures.number) _ c.if-n-q.true

pub returns : goal.returns
returns c = back_cut _ _ (sym c.in_ok-check_change.ensures.number) _ _ c.if-n-q.false c.stepped.ensures
