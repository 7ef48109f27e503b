-- `drains::drain_next` meets its contract. Assumes nothing.
use Rattle.std.proofs.Common.{sym, arith}
use Rattle.drains.proofs.Draws.{draw_refused, next_none, next_some}
use Rattle.queue.proofs.DrainChecks.{drain_queue, remains_in}
use Rattle.rules.specs.Outcome.{do_next}
use Rattle.drains.proofs.drain_next.Goals as goal

pub returns-in_err-check_drain : goal.returns-in_err-check_drain
unfolding do_next
returns-in_err-check_drain c =
    draw_refused _ _ _ _ _ c.from_residual.ensures.1 c.in_err-check_drain.ensures.number

pub returns-then-d-eq0 : goal.returns-then-d-eq0
returns-then-d-eq0 c = next_none _ _ (sym c.in_ok-check_drain.ensures.number) c.if-d-eq0.true

pub element-requires : goal.element-requires
element-requires c =
    let passed = sym c.in_ok-check_drain.ensures.number in
    (drain_queue _ _ passed _ c.as_opened.ensures, remains_in _ _ passed _ c.as_opened.ensures _ (omega arith))

pub returns : goal.returns
returns c =
    next_some _ _ (sym c.in_ok-check_drain.ensures.number) _ _ c.from_front.ensures c.if-d-eq0.false _
    c.as_opened.ensures c.element.ensures
