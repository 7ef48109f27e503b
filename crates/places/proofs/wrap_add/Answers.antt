-- `places::wrap_add` meets its contract: the sum does not wrap at 2 ^ 64. Assumes nothing.
use Rattle.std.proofs.Common.{ap, ◌∙◌, arith}
use Rattle.rules.specs.Places.{wrapped}
use Rattle.places.proofs.wrap_add.Goals as goal

pub returns-clause-place : goal.returns-clause-place
returns-clause-place c = c.wrap_index.ensures.place ∙ ap (wrapped c.args.cap) (omega arith)
