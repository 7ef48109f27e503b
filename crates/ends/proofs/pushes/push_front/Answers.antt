-- `ends::push_front` meets its contract. Assumes nothing.
use Rattle.std.proofs.Common.{sym, arith}
use Rattle.ends.proofs.pushes.Laws.{front_full, front_pushed}
use Rattle.queue.proofs.Checks.{change_refused}
use Rattle.ends.proofs.pushes.push_front.Goals as goal

pub returns-in_err-check_change : goal.returns-in_err-check_change
returns-in_err-check_change c =
    change_refused _ _ _ _ _ c.from_residual.ensures.1 c.in_err-check_change.ensures.number

pub returns-then-q-cap : goal.returns-then-q-cap
returns-then-q-cap c =
    front_pushed _ _ (sym c.in_ok-check_change.ensures.number) _ _ _ _ (λ full. omega (arith, c.if-q-cap.true, full))
    c.as_index.ensures c.wrap_sub-first.ensures.place c.stepped.ensures

pub returns : goal.returns
returns c =
    let fits = c.in_ok-check_change.ensures.fits in
    front_full _ _ (sym c.in_ok-check_change.ensures.number) _ (omega arith)
