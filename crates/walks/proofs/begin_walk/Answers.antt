-- `walks::begin_walk` meets its contract. Assumes nothing.
use mathlib.Core.Path.{sym}
use Rattle.walks.proofs.Steps.{not_begun, begun}
use Rattle.walks.proofs.begin_walk.Goals as goal

pub returns-in_err-check : goal.returns-in_err-check
returns-in_err-check c = not_begun _ _ _ _ c.from_residual.ensures.1 c.in_err-check.ensures.number

pub returns : goal.returns
returns c = begun _ _ _ (sym c.in_ok-check.ensures.number) c.whole_walk.ensures
