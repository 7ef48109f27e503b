-- `search::in_runs::place_in` meets its contract: each step leaves the same end. Assumes nothing.
use mathlib.Core.Path.{sym, ◌∙◌}
use native.Mathlib.Omega.{arith}
use Rattle.search.proofs.Steps.{starts, goes_up, goes_down, ended}
use Rattle.search.proofs.in_runs.place_in.Goals as goal

pub loop-high-init : goal.loop-high-init
loop-high-init c = (omega arith, omega arith, starts _ _)

pub loop-high-preserved-then-meets : goal.loop-high-preserved-then-meets
loop-high-preserved-then-meets c = (
  omega arith,
  omega arith,
  goes_up _ _ _ _ c.if-low-high.false (sym c.meets.ensures ∙ c.if-meets.true)
      c.loop-high.invariant.2,
)

pub loop-high-preserved : goal.loop-high-preserved
loop-high-preserved c = (
  omega arith,
  omega arith,
  goes_down _ _ _ _ c.if-low-high.false (sym c.meets.ensures ∙ c.if-meets.false)
      c.loop-high.invariant.2,
)

pub returns : goal.returns
returns c = (omega arith, ended _ _ _ _ c.if-low-high.true c.loop-high.invariant.2)
