-- `ends::pop_back` meets its contract. Assumes nothing.
use Rattle.std.proofs.Common.{refl, sym, ◌∙◌, arith}
use Rattle.elements.proofs.Refused.{handed_refused}
use Rattle.ends.proofs.pops.Laws.{back_none, back_popped}
use Rattle.ends.proofs.pops.pop_back.Goals as goal

pub returns-in_err-check_change : goal.returns-in_err-check_change
returns-in_err-check_change c =
    handed_refused _ _ _ _ _ c.from_residual.ensures.1 c.in_err-check_change.ensures.number

pub returns-then-q-gt0 : goal.returns-then-q-gt0
returns-then-q-gt0 c =
    back_popped _ _ (sym c.in_ok-check_change.ensures.number) _ _ _ (λ none. omega (arith, c.if-q-gt0.true, none))
    (c.as_index-last.ensures ∙ c.wrap_add.ensures.place) refl c.stepped.ensures

pub returns : goal.returns
returns c = rw c.nothing.ensures (back_none _ _ (sym c.in_ok-check_change.ensures.number) (omega arith))
