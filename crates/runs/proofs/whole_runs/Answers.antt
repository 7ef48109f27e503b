-- `runs::whole_runs` meets its contract. Assumes nothing.
use Rattle.runs.proofs.Whole.{runs-held}
use Rattle.runs.proofs.whole_runs.Goals as goal

pub returns-clause-list : goal.returns-clause-list
returns-clause-list c = λ z. rw (c.both_runs.ensures.front, c.both_runs.ensures.back) (runs-held _ _ z)
