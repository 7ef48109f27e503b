-- `exports_tests::known_test` meets its contract, where 1, 2 or 6 is met first. Assumes nothing.
use Rattle.std.proofs.Common.{sym, arith}
use Rattle.queue.proofs.Checks.{same_refusal}
use Rattle.queue.proofs.Numbers.{some_number}
use Rattle.rules.proofs.Refusals.{change_stop}
use Rattle.exports_tests.proofs.known_test.Goals as goal

pub returns-in_err-check_change : goal.returns-in_err-check_change
returns-in_err-check_change c =
    let stops = change_stop _ _ 3 _ (some_number _) (sym c.in_err-check_change.ensures.number) in
    rw (same_refusal _ _ c.from_residual.ensures.1) (grind arith)
