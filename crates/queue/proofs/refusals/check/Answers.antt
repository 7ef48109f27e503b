-- `queue::check` meets its contract: one law for each return. Assumes nothing.
use mathlib.Core.Path.{sym, ◌∙◌}
use native.Mathlib.Omega.{arith}
use Rattle.queue.proofs.Checks.{slots_checked, good_checked, record_checked}
use Rattle.queue.specs.Answers.{rec_of}
use Rattle.rules.proofs.Refusals.{record_ok}
use Rattle.queue.proofs.refusals.check.Goals as goal

pub returns-then-good_record-clause-number : goal.returns-then-good_record-clause-number
returns-then-good_record-clause-number c = good_checked _ _ (omega arith) (sym c.good_record.ensures ∙ c.if-good_record.true)

pub returns-then-cap-most_slots-clause-number : goal.returns-then-cap-most_slots-clause-number
returns-then-cap-most_slots-clause-number c = record_checked _ _ (omega arith) (sym c.good_record.ensures ∙ c.if-good_record.false)

pub returns-clause-number : goal.returns-clause-number
returns-clause-number c = slots_checked _ _ (omega arith)

pub returns-then-good_record-clause-fits : goal.returns-then-good_record-clause-fits
returns-then-good_record-clause-fits c =
    let g = record_ok c.args.cap (rec_of c.args.q) (rw (sym c.good_record.ensures ∙ c.if-good_record.true) tt) in
    (omega arith, g.placed, g.fits)
