-- `ends::push_back` meets its contract. Assumes nothing.
use Rattle.std.proofs.Common.{◌∙◌, sym, arith}
use Rattle.ends.proofs.pushes.Laws.{back_full, back_pushed}
use Rattle.queue.proofs.Checks.{change_refused}
use Rattle.ends.proofs.pushes.push_back.Goals as goal

pub returns-in_err-check_change : goal.returns-in_err-check_change
returns-in_err-check_change c =
    change_refused _ _ _ _ _ c.from_residual.ensures.1 c.in_err-check_change.ensures.number

pub returns-then-len-cap : goal.returns-then-len-cap
returns-then-len-cap c =
    back_pushed _ _ (sym c.in_ok-check_change.ensures.number) _ _ _ (λ full. omega (arith, c.if-len-cap.true, full))
    (c.as_index-behind.ensures ∙ c.wrap_add.ensures.place) c.stepped.ensures

pub returns : goal.returns
returns c =
    let fits = c.in_ok-check_change.ensures.fits in
    back_full _ _ (sym c.in_ok-check_change.ensures.number) _ (omega arith)
