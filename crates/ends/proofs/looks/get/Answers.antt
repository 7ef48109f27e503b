-- `ends::looks::get` meets its contract. Assumes nothing.
use Rattle.std.proofs.Common.{refl, sym, ◌∙◌}
use Rattle.ends.proofs.looks.Laws.{unseen_past, seen_at}
use Rattle.queue.proofs.Looks.{look_refused}
use Rattle.ends.proofs.looks.get.Goals as goal

pub returns-in_err-check : goal.returns-in_err-check
returns-in_err-check c = look_refused _ _ _ _ _ _ c.from_residual.ensures.1 c.in_err-check.ensures.number

pub returns-then-i-q : goal.returns-then-i-q
returns-then-i-q c =
    seen_at _ _ (sym c.in_ok-check.ensures.number) _ _ _ c.if-i-q.true
    (c.as_index-at.ensures ∙ c.wrap_add.ensures.place) refl

pub returns : goal.returns
returns c = unseen_past _ _ (sym c.in_ok-check.ensures.number) _ c.if-i-q.false
