-- `exports_search::partition_point` meets its contract, where there is no such test. Assumes nothing.
use Rattle.std.proofs.Common.{sym, arith}
use Rattle.queue.proofs.Checks.{same_refusal}
use Rattle.queue.proofs.Numbers.{some_number}
use Rattle.queue.specs.Answers.{number_of}
use Rattle.rules.proofs.Refusals.{queue-stop, queue_go}
use Rattle.exports_search.specs.Kinds.{partition_tested}
use Rattle.exports_search.proofs.partition_point.Goals as goal

pub returns-in_err-check : goal.returns-in_err-check
unfolding partition_tested
returns-in_err-check c =
    let stops = queue-stop _ _ 3 _ (some_number _) (sym c.in_err-check.ensures.number) in
    rw (same_refusal _ _ c.from_residual.ensures.1) (grind arith)

pub returns-in_default : goal.returns-in_default
unfolding partition_tested number_of
returns-in_default c = let goes = queue_go _ _ 3 (sym c.in_ok-check.ensures.number) in grind arith
