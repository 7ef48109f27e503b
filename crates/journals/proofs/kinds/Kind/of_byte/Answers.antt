-- `journals::kinds::Kind::of_byte` meets its contract. Assumes nothing.
use native.Mathlib.Omega.{arith}
use Rattle.std.proofs.lemmas.Bool.Decides.{nat_tests}
use Rattle.rules.specs.Choices.{whether}
use Rattle.rules.specs.Journals.{length_of}
use Rattle.journals.proofs.kinds.Kind.of_byte.Goals as goal

pub returns-in_default : goal.returns-in_default
unfolding length_of whether
returns-in_default c = grind (arith, nat_tests)
