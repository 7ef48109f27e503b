-- `plays::steps::break_off` meets its contract. Assumes nothing.
use native.Mathlib.Omega.{arith}
use Rattle.plays.proofs.Done.{does_break, does_then}
use Rattle.plays.proofs.steps.break_off.Goals as goal

pub returns : goal.returns
returns c =
    let before = c.args.before in
    let put = c.broken_line.ensures in
    let begun = c.begin_last.ensures in (
      does_then _ _ _ _ _ _ _ _ _ _ _ (does_break _ _ before _ _ _ _ (omega arith) (omega arith) put.0) begun.0,
      omega (arith, put.1, begun.1),
    )
