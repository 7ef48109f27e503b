-- `queue::check_drain` meets its contract. Assumes nothing.
use mathlib.Core.Path.{sym, ◌∙◌}
use native.Mathlib.Omega.{arith}
use Rattle.queue.proofs.DrainChecks.{slots_checked, good_checked, record_checked}
use Rattle.queue.specs.Drains.{drain_of}
use Rattle.rules.proofs.Drains.{good_drain_lem}
use Rattle.queue.proofs.refusals.check_drain.Goals as goal

pub returns-then-cap-most_slots-clause-number : goal.returns-then-cap-most_slots-clause-number
returns-then-cap-most_slots-clause-number c = slots_checked _ _ (omega arith)

pub returns-then-good_drain-clause-number : goal.returns-then-good_drain-clause-number
returns-then-good_drain-clause-number c = good_checked _ _ (omega arith) (sym c.good_drain.ensures ∙ c.if-good_drain.true)

pub returns-clause-number : goal.returns-clause-number
returns-clause-number c = record_checked _ _ (omega arith) (sym c.good_drain.ensures ∙ c.if-good_drain.false)

pub returns-then-good_drain-clause-fits : goal.returns-then-good_drain-clause-fits
returns-then-good_drain-clause-fits c =
    let g = good_drain_lem c.args.cap (drain_of c.args.d) (rw (sym c.good_drain.ensures ∙ c.if-good_drain.true) tt) in
    (omega arith, g.whole.placed, g.whole.fits, g.from, g.upto)
