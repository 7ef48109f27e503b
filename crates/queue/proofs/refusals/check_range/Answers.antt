-- `queue::check_range` meets its contract: one law for each return. Assumes nothing.
use mathlib.Core.Path.{sym}
use native.Mathlib.Omega.{arith}
use Rattle.queue.proofs.RangeChecks.{range_turned, range_past, range_in}
use Rattle.queue.specs.Answers.{number_of}
use Rattle.queue.proofs.refusals.check_range.Goals as goal

pub returns-then-start-end-clause-number : goal.returns-then-start-end-clause-number
unfolding number_of
returns-then-start-end-clause-number c = sym (range_turned _ _ _ _ (omega arith))

pub returns-then-end-len-clause-number : goal.returns-then-end-len-clause-number
unfolding number_of
returns-then-end-len-clause-number c = sym (range_past _ _ _ _ (omega arith) (omega arith))

pub returns-clause-number : goal.returns-clause-number
returns-clause-number c = sym (range_in _ _ _ _ (omega arith) (omega arith))
