-- `retains::retain` meets its contract. Assumes nothing.
use Rattle.std.proofs.Common.{sym}
use Rattle.queue.proofs.Checks.{change_refused}
use Rattle.retains.proofs.Retains.{retained_all, retained}
use Rattle.rules.proofs.Refusals.{change_queue}
use Rattle.retains.proofs.retain.Goals as goal

pub returns-in_err-check_change : goal.returns-in_err-check_change
returns-in_err-check_change c =
    change_refused _ _ _ _ _ c.from_residual.ensures.1 c.in_err-check_change.ensures.number

pub before_first_rejected-kept-requires : goal.before_first_rejected-kept-requires
before_first_rejected-kept-requires c = change_queue _ _ _ (sym c.in_ok-check_change.ensures.number)

pub returns-then-kept-q : goal.returns-then-kept-q
returns-then-kept-q c =
    retained_all _ _ (sym c.in_ok-check_change.ensures.number) _ _ c.before_first_rejected-kept.ensures.value
    c.if-kept-q.true

pub returns : goal.returns
returns c =
    retained _ _ (sym c.in_ok-check_change.ensures.number) _ _ c.before_first_rejected-kept.ensures.value
    c.if-kept-q.false _ _ c.wrap_add-to.ensures.place _ _ c.move_kept-moved.ensures.value
    c.move_kept-moved.ensures.slots_after c.stepped.ensures
