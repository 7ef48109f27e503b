-- `walks::walk_next_back` meets its contract. Assumes nothing.
use mathlib.Core.Path.{sym}
use native.Mathlib.Omega.{arith}
use Rattle.walks.proofs.Steps.{walkable, step-refused, back, nothing_left, one_given}
use Rattle.walks.proofs.walk_next_back.Goals as goal

pub returns-in_err-check_walk : goal.returns-in_err-check_walk
returns-in_err-check_walk c =
    step-refused back _ _ _ _ c.from_residual.ensures.1 c.in_err-check_walk.ensures.number

pub returns-then-w : goal.returns-then-w
returns-then-w c = nothing_left back _ _ (sym c.in_ok-check_walk.ensures.number) c.if-w.true

pub element-requires : goal.element-requires
element-requires c = ((walkable _ _ (sym c.in_ok-check_walk.ensures.number)).first, omega arith)

pub returns : goal.returns
returns c = one_given back _ _ (sym c.in_ok-check_walk.ensures.number) _ c.if-w.false c.element.ensures
