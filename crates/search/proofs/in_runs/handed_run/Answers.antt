-- `search::in_runs::handed_run` meets its contract. Assumes nothing.
use mathlib.Core.Path.{sym, ◌∙◌}
use Rattle.search.proofs.Handed.{back-handed, front-handed}
use Rattle.search.proofs.in_runs.handed_run.Goals as goal

pub returns-then-begins_with : goal.returns-then-begins_with
returns-then-begins_with c = back-handed _ _ _ (sym c.begins_with.ensures ∙ c.if-begins_with.true)

pub returns-else-begins_with : goal.returns-else-begins_with
returns-else-begins_with c = front-handed _ _ _ (sym c.begins_with.ensures ∙ c.if-begins_with.false)
