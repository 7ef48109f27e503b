-- `middle::remove` meets its contract. Assumes nothing.
use Rattle.std.proofs.Common.{sym, arith}
use Rattle.elements.proofs.Refused.{handed_refused}
use Rattle.middle.proofs.Removes.{remove_none, removed_later, removed_earlier}
use Rattle.rules.proofs.Refusals.{change_queue}
use Rattle.middle.proofs.removing.remove.Goals as goal

pub returns-in_err-check_change : goal.returns-in_err-check_change
returns-in_err-check_change c =
    handed_refused _ _ _ _ _ c.from_residual.ensures.1 c.in_err-check_change.ensures.number

pub returns-then-index-q : goal.returns-then-index-q
returns-then-index-q c = remove_none _ _ (sym c.in_ok-check_change.ensures.number) _ c.if-index-q.true

pub element-requires : goal.element-requires
element-requires c = (change_queue _ _ _ (sym c.in_ok-check_change.ensures.number), c.if-index-q.false)

pub returns-then-later-index : goal.returns-then-later-index
returns-then-later-index c =
    removed_later _ _ (sym c.in_ok-check_change.ensures.number) _ _ c.if-index-q.false c.element.ensures _ _
    (omega arith) c.stepped.ensures c.remove_later.ensures

pub returns : goal.returns
returns c =
    removed_earlier _ _ (sym c.in_ok-check_change.ensures.number) _ _ c.if-index-q.false c.element.ensures _ _ _
    (omega arith) c.remove_earlier-head.ensures.head c.stepped-2.ensures
    c.remove_earlier-head.ensures.slots_after
