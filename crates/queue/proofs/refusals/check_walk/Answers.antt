-- `queue::check_walk` meets its contract. Assumes nothing.
use mathlib.Core.Path.{sym}
use Rattle.queue.proofs.Checks.{same_refusal}
use Rattle.queue.proofs.WalkChecks.{first_stops, low_stops, high_stops, none_stops}
use Rattle.queue.proofs.refusals.check_walk.Goals as goal

pub returns-in_err-check-clause-number : goal.returns-in_err-check-clause-number
returns-in_err-check-clause-number c =
    rw (same_refusal _ _ c.from_residual.ensures.1) (first_stops _ _ _ (sym c.in_err-check.ensures.number))

pub returns-then-w-clause-number : goal.returns-then-w-clause-number
returns-then-w-clause-number c = low_stops _ _ (sym c.in_ok-check.ensures.number) c.if-w.true

pub returns-then-w-2-clause-number : goal.returns-then-w-2-clause-number
returns-then-w-2-clause-number c = high_stops _ _ (sym c.in_ok-check.ensures.number) c.if-w.false c.if-w-2.true

pub returns-clause-number : goal.returns-clause-number
returns-clause-number c = none_stops _ _ (sym c.in_ok-check.ensures.number) c.if-w.false c.if-w-2.false
