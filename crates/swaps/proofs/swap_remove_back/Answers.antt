-- `swaps::swap_remove_back` meets its contract. Assumes nothing.
use Rattle.std.proofs.Common.{sym, ◌∙◌}
use Rattle.elements.proofs.Refused.{handed_refused}
use Rattle.swaps.proofs.Laws.{back_past, back_last, back_filled}
use Rattle.swaps.proofs.swap_remove_back.Goals as goal

pub returns-in_err-check_change : goal.returns-in_err-check_change
returns-in_err-check_change c =
    handed_refused _ _ _ _ _ c.from_residual.ensures.1 c.in_err-check_change.ensures.number

pub returns-then-index-len : goal.returns-then-index-len
returns-then-index-len c = back_past _ _ (sym c.in_ok-check_change.ensures.number) _ c.if-index-len.true

pub returns-then-index-len-2 : goal.returns-then-index-len-2
returns-then-index-len-2 c =
    c.pop_back.ensures
    ∙ back_last _ _ (sym c.in_ok-check_change.ensures.number) _ c.if-index-len.false c.if-index-len-2.true

pub returns : goal.returns
returns c =
    back_filled _ _ (sym c.in_ok-check_change.ensures.number) _ c.if-index-len.false _ _ _ _ _
    c.if-index-len-2.false c.wrap_add-at.ensures.place c.wrap_add-last.ensures.place
    c.fill-number.ensures.gone c.fill-number.ensures.filled c.stepped.ensures
