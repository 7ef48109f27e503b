-- `swaps::swap_remove_front` meets its contract. Assumes nothing.
use Rattle.std.proofs.Common.{sym, ◌∙◌}
use Rattle.elements.proofs.Refused.{handed_refused}
use Rattle.swaps.proofs.Laws.{front_past, front_first, front_filled}
use Rattle.swaps.proofs.swap_remove_front.Goals as goal

pub returns-in_err-check_change : goal.returns-in_err-check_change
returns-in_err-check_change c =
    handed_refused _ _ _ _ _ c.from_residual.ensures.1 c.in_err-check_change.ensures.number

pub returns-then-index-q : goal.returns-then-index-q
returns-then-index-q c = front_past _ _ (sym c.in_ok-check_change.ensures.number) _ c.if-index-q.true

pub returns-then-index-eq0 : goal.returns-then-index-eq0
returns-then-index-eq0 c =
    c.pop_front.ensures
    ∙ front_first _ _ (sym c.in_ok-check_change.ensures.number) _ c.if-index-q.false c.if-index-eq0.true

pub returns : goal.returns
returns c =
    front_filled _ _ (sym c.in_ok-check_change.ensures.number) _ c.if-index-q.false _ _ _ _ _ c.if-index-eq0.false
    c.wrap_add-at.ensures.place c.fill-number.ensures.gone c.fill-number.ensures.filled
    c.wrap_add-next.ensures.place c.stepped.ensures
