-- `middle::insert` meets its contract. Assumes nothing.
use Rattle.std.proofs.Common.{sym, arith}
use Rattle.middle.proofs.Inserts.{insert_past, insert_full, inserted_later, inserted_earlier}
use Rattle.queue.proofs.Checks.{change_refused}
use Rattle.middle.proofs.inserting.insert.Goals as goal

pub returns-in_err-check_change : goal.returns-in_err-check_change
returns-in_err-check_change c =
    change_refused _ _ _ _ _ c.from_residual.ensures.1 c.in_err-check_change.ensures.number

pub returns-then-index-q : goal.returns-then-index-q
returns-then-index-q c = insert_past _ _ (sym c.in_ok-check_change.ensures.number) _ _ c.if-index-q.true

pub returns-then-q-cap : goal.returns-then-q-cap
returns-then-q-cap c =
    insert_full _ _ (sym c.in_ok-check_change.ensures.number) _ _ c.if-index-q.false c.if-q-cap.true

pub returns-then-later-index : goal.returns-then-later-index
returns-then-later-index c =
    inserted_later _ _ (sym c.in_ok-check_change.ensures.number) _ _ c.if-index-q.false c.if-q-cap.false _ _
    (omega arith) c.stepped.ensures c.insert_later.ensures

pub returns : goal.returns
returns c =
    inserted_earlier _ _ (sym c.in_ok-check_change.ensures.number) _ _ c.if-index-q.false c.if-q-cap.false _ _ _
    (omega arith) c.insert_earlier-head.ensures.head c.stepped-2.ensures
    c.insert_earlier-head.ensures.slots_after
