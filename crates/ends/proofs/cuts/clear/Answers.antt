-- `ends::clear` meets its contract. Assumes nothing.
use Rattle.std.proofs.Common.{sym, arith}
use Rattle.ends.proofs.cuts.Laws.{cleared}
use Rattle.queue.proofs.Checks.{change_refused}
use Rattle.ends.proofs.cuts.clear.Goals as goal

pub returns-in_err-check_change : goal.returns-in_err-check_change
returns-in_err-check_change c =
    change_refused _ _ _ _ _ c.from_residual.ensures.1 c.in_err-check_change.ensures.number

pub returns : goal.returns
returns c = cleared _ _ (sym c.in_ok-check_change.ensures.number) _ _ (omega arith) c.stepped.ensures
