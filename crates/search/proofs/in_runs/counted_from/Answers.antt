-- `search::in_runs::counted_from` meets its contract. Assumes nothing.
use mathlib.Core.Path.{sym, ◌∙◌}
use Rattle.search.proofs.Handed.{back_counted, front_counted}
use Rattle.search.proofs.in_runs.counted_from.Goals as goal

pub returns-then-begins_with : goal.returns-then-begins_with
returns-then-begins_with c = back_counted _ _ _ (sym c.begins_with.ensures ∙ c.if-begins_with.true)

pub returns-else-begins_with : goal.returns-else-begins_with
returns-else-begins_with c = front_counted _ _ _ (sym c.begins_with.ensures ∙ c.if-begins_with.false)
