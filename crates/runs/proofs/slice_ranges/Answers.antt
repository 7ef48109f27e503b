-- `runs::slice_ranges` meets its contract. Assumes nothing.
use mathlib.Core.Path.{◌∙◌, sym}
use Rattle.runs.proofs.Cases.{runs_none, runs_one, runs_two}
use Rattle.runs.proofs.SliceRanges.{range_first, range_refused, range_seen}
use Rattle.runs.proofs.slice_ranges.Goals as goal

pub returns-in_err-check : goal.returns-in_err-check
returns-in_err-check c = range_first _ _ _ _ _ _ c.from_residual.ensures.1 c.in_err-check.ensures.number

pub returns-in_err-check_range : goal.returns-in_err-check_range
returns-in_err-check_range c =
    range_refused _ _ _ _ _ _ c.from_residual-in_err-check_range.ensures.1 (sym c.in_ok-check.ensures.number)
    c.in_err-check_range.ensures.number

pub returns-then-start-end : goal.returns-then-start-end
returns-then-start-end c =
    range_seen _ _ _ _ (sym c.in_ok-check.ensures.number) (sym c.in_ok-check_range.ensures.number) _
    (runs_none _ _ _ _ c.if-start-end.true)

pub returns-then-n-room : goal.returns-then-n-room
returns-then-n-room c =
    let at = c.as_index-first.ensures ∙ c.wrap_add.ensures.place in
    range_seen _ _ _ _ (sym c.in_ok-check.ensures.number) (sym c.in_ok-check_range.ensures.number) _
    (rw at (runs_one _ _ _ _ c.if-start-end.false (rw at at c.if-n-room.true)))

pub returns : goal.returns
returns c =
    let at = c.as_index-first.ensures ∙ c.wrap_add.ensures.place in
    range_seen _ _ _ _ (sym c.in_ok-check.ensures.number) (sym c.in_ok-check_range.ensures.number) _
    (rw at (runs_two _ _ _ _ c.if-start-end.false (rw at at c.if-n-room.false)))
