-- `plays::steps::play_record` meets its contract. Assumes nothing.
use native.Mathlib.Omega.{arith}
use Rattle.plays.proofs.Done.{does_record}
use Rattle.plays.proofs.steps.play_record.Goals as goal

pub returns : goal.returns
returns c =
    let done = c.perform-done.ensures in
    let after = c.record_or.ensures in
    let put = c.answer_line-written.ensures in
    (does_record _ _ c.args.before _ _ _ _ _ _ _ _ c.requires.1 (omega arith) done after put.0, put.1)
