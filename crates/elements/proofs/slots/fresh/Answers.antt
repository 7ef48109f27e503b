-- `elements::fresh` meets its contract: one law for each return. Assumes nothing.
use native.Mathlib.Omega.{arith}
use Rattle.queue.specs.Answers.{number_of}
use Rattle.rules.proofs.Makes.{fresh-refused, fresh-made}
use Rattle.elements.proofs.slots.fresh.Goals as goal

pub returns-then-slots-most_slots : goal.returns-then-slots-most_slots
unfolding number_of
returns-then-slots-most_slots c = fresh-refused _ (omega arith)

pub returns : goal.returns
returns c = fresh-made _ _ (omega arith) c.new_record.ensures
