-- `runs::both_runs` meets its contract: the parts that are handed back are the runs'. Assumes nothing.
use mathlib.Core.Path.{ap}
use Rattle.rules.specs.Runs.{TwoRuns, part, front_run, back_run}
use Rattle.runs.proofs.both_runs.Goals as goal

pub returns-clause-front : goal.returns-clause-front
unfolding part front_run
returns-clause-front c = ap (λ (t : TwoRuns). part c.args.slots.now t.front) c.runs_or_none.ensures.places

pub returns-clause-back : goal.returns-clause-back
unfolding part back_run
returns-clause-back c = ap (λ (t : TwoRuns). part c.args.slots.now t.back) c.runs_or_none.ensures.places
