-- `measured::check_copy` meets its contract. Assumes nothing.
use Rattle.std.proofs.Common.{arith}
use Rattle.std.proofs.lemmas.Bool.Decides.{nat_tests}
use Rattle.queue.specs.Answers.{number_of}
use Rattle.rules.specs.Choices.{ask}
use Rattle.rules.specs.Refusals.{on_slots}
use Rattle.measured.specs.Copies.{on_copy}
use Rattle.measured.proofs.check_copy.Goals as goal

pub returns-then-cap-most_slots-clause-number : goal.returns-then-cap-most_slots-clause-number
unfolding on_copy on_slots ask number_of
returns-then-cap-most_slots-clause-number c = grind (arith, nat_tests)

pub returns-then-in_slots-2-clause-number : goal.returns-then-in_slots-2-clause-number
unfolding on_copy on_slots ask
returns-then-in_slots-2-clause-number c = grind (arith, nat_tests)

pub returns-clause-number : goal.returns-clause-number
unfolding on_copy on_slots ask number_of
returns-clause-number c = grind (arith, nat_tests)
