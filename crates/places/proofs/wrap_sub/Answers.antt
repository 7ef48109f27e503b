-- `places::wrap_sub` meets its contract: the difference wraps at 2 ^ 64, and the sum wraps back. Assumes nothing.
use Rattle.std.proofs.Common.{ap, ◌∙◌, arith}
use Rattle.rules.specs.Places.{wrapped}
use Rattle.places.proofs.wrap_sub.Goals as goal

pub returns-clause-place : goal.returns-clause-place
returns-clause-place c = c.wrap_index.ensures.place ∙ ap (wrapped c.args.cap) (omega arith)
