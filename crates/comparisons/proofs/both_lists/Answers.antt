-- `comparisons::both_lists` meets its contract. Assumes nothing.
use mathlib.Core.Path.{sym}
use Rattle.comparisons.proofs.Queues.{first_refused, second_refused, lists_seen}
use Rattle.comparisons.proofs.both_lists.Goals as goal

pub returns-in_err-check : goal.returns-in_err-check
returns-in_err-check c =
    first_refused _ _ _ _ _ _ _ _ c.from_residual.ensures.1 c.in_err-check.ensures.number

pub returns-in_err-check-2 : goal.returns-in_err-check-2
returns-in_err-check-2 c =
    second_refused _ _ _ _ _ _ _ _ c.from_residual-in_err-check-2.ensures.1 (sym c.in_ok-check.ensures.number)
    c.in_err-check-2.ensures.number

pub returns : goal.returns
returns c =
    let first = sym c.in_ok-check.ensures.number in
    let second = sym c.in_ok-check-2.ensures.number in
    lists_seen _ _ _ _ first second _ _ (c.whole_runs-ours.ensures.list first)
    (c.whole_runs-theirs.ensures.list second)
