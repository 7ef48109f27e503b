-- `walks::iter` meets its contract. Assumes nothing.
use mathlib.Core.Path.{◌∙◌}
use Rattle.walks.proofs.LeftOver.{list_left}
use Rattle.walks.proofs.lent.iter.Goals as goal

pub returns-clause-list : goal.returns-clause-list
returns-clause-list c = list_left _ c.args.slots _ c.lend.ensures.slots (c.lend.ensures.walk ∙ c.whole_walk.ensures)
