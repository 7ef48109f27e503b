-- `swaps::swap` meets its contract. Assumes nothing.
use Rattle.std.proofs.Common.{sym, refl}
use Rattle.swaps.proofs.Laws.{position_past, not_swapped, swapped}
use Rattle.queue.proofs.Checks.{change_refused}
use Rattle.swaps.proofs.swap.Goals as goal

pub returns-in_err-check_change : goal.returns-in_err-check_change
returns-in_err-check_change c =
    change_refused _ _ _ _ _ c.from_residual.ensures.1 c.in_err-check_change.ensures.number

pub returns-then-i-q : goal.returns-then-i-q
returns-then-i-q c = position_past _ _ (sym c.in_ok-check_change.ensures.number) _ _ c.then-i-q.either

pub returns-then-i-j : goal.returns-then-i-j
returns-then-i-j c =
    not_swapped _ _ (sym c.in_ok-check_change.ensures.number) _ _ c.if-i-q.false c.if-j-q.false c.if-i-j.true

pub returns : goal.returns
returns c =
    swapped _ _ (sym c.in_ok-check_change.ensures.number) _ _ c.if-i-q.false _ _ _ c.if-j-q.false c.if-i-j.false
    c.wrap_add-at_i.ensures.place c.wrap_add-at_j.ensures.place
    (rw (c.as_index.ensures, c.fill-number.ensures.gone, c.fill-number.ensures.filled) refl)
