-- `runs::runs_or_none` meets its contract. Assumes nothing.
use Rattle.runs.proofs.Spans.{runs_taken, taken_within}
use Rattle.runs.proofs.runs_or_none.Goals as goal

pub returns-clause-places : goal.returns-clause-places
returns-clause-places c = rw c.unwrap_or.ensures (runs_taken _ _ _ _ _ c.slice_ranges.ensures)

pub returns-clause-within : goal.returns-clause-within
returns-clause-within c = rw c.unwrap_or.ensures (taken_within _ _ _ _ _ c.slice_ranges.ensures)
