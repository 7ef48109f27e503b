-- `plays::steps::begin_last` meets its contract. Assumes nothing.
use native.Mathlib.Omega.{arith}
use Rattle.plays.proofs.Done.{does_ending}
use Rattle.plays.specs.Pieces.{begin_last}
use Rattle.plays.proofs.steps.begin_last.Goals as goal

pub returns : goal.returns
unfolding begin_last
returns c =
    let before = c.args.before in
    let put = c.put_end.ensures in
    (does_ending _ _ before _ _ _ _ _ _ (omega arith) (omega arith) put, omega (arith, put.next))
