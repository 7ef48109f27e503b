-- `ends::pop_front` meets its contract. Assumes nothing.
use Rattle.std.proofs.Common.{refl, sym, arith}
use Rattle.elements.proofs.Refused.{handed_refused}
use Rattle.ends.proofs.pops.Laws.{front_none, front_popped}
use Rattle.ends.proofs.pops.pop_front.Goals as goal

pub returns-in_err-check_change : goal.returns-in_err-check_change
returns-in_err-check_change c =
    handed_refused _ _ _ _ _ c.from_residual.ensures.1 c.in_err-check_change.ensures.number

pub returns-then-q-gt0 : goal.returns-then-q-gt0
returns-then-q-gt0 c =
    front_popped _ _ (sym c.in_ok-check_change.ensures.number) _ _ _ _ (λ none. omega (arith, c.if-q-gt0.true, none))
    c.as_index-first.ensures refl c.next-next.ensures.place c.stepped.ensures

pub returns : goal.returns
returns c = rw c.nothing.ensures (front_none _ _ (sym c.in_ok-check_change.ensures.number) (omega arith))
