-- `comparisons::contains` meets its contract. Assumes nothing.
use mathlib.Core.Path.{◌∙◌, ap, sym}
use Rattle.queue.proofs.Looks.{look_past, look_refused}
use Rattle.rules.specs.Looks.{has}
use Rattle.comparisons.proofs.contains.Goals as goal

pub returns-in_err-check : goal.returns-in_err-check
returns-in_err-check c = look_refused _ _ _ _ _ _ c.from_residual.ensures.1 c.in_err-check.ensures.number

pub returns : goal.returns
returns c =
    let first = sym c.in_ok-check.ensures.number in
    look_past _ _ _ first _ (c.stands_in.ensures ∙ ap (has c.args.x) (c.whole_runs-list.ensures.list first))
