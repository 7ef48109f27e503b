-- `queue::check_change` meets its contract: one law for each return. Assumes nothing.
use mathlib.Core.Path.{◌∙◌}
use Rattle.queue.proofs.Checks.{same_refusal, first_checked, open_checked, unmarked_asks}
use Rattle.queue.proofs.refusals.check_change.Goals as goal

pub returns-in_err-check-clause-number : goal.returns-in_err-check-clause-number
returns-in_err-check-clause-number c =
    rw (same_refusal _ _ c.from_residual.ensures.1) (first_checked _ _ _ c.in_err-check.ensures.number)

pub returns-then-q-clause-number : goal.returns-then-q-clause-number
returns-then-q-clause-number c = open_checked _ _ c.in_ok-check.ensures.number c.if-q.true

pub returns-clause-number : goal.returns-clause-number
returns-clause-number c = c.check-2.ensures.number ∙ unmarked_asks _ _ c.if-q.false
