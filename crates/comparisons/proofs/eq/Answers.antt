-- `comparisons::eq` meets its contract. Assumes nothing.
use Rattle.comparisons.proofs.Queues.{both_refused, both_seen}
use Rattle.comparisons.proofs.eq.Goals as goal

pub returns-in_err-ours : goal.returns-in_err-ours
returns-in_err-ours c = both_refused _ _ _ _ _ _ _ _ c.from_residual.ensures.1 c.in_err-ours.ensures

pub returns : goal.returns
returns c = both_seen _ _ _ _ _ _ _ c.in_ok-ours.ensures _ c.same_runs.ensures
