-- `journals::records::record_at` meets its contract. Assumes nothing.
use native.Mathlib.Omega.{arith}
use Rattle.std.proofs.lemmas.Bool.Decides.{nat_tests}
use Rattle.rules.specs.Choices.{whether}
use Rattle.rules.specs.Journals.{record_at, length_at, some_length}
use Rattle.journals.proofs.records.record_at.Goals as goal

pub returns-then-bytes-at : goal.returns-then-bytes-at
unfolding record_at whether
returns-then-bytes-at c = grind (arith, nat_tests)

pub returns-in_err-check_there : goal.returns-in_err-check_there
unfolding record_at whether
returns-in_err-check_there c = grind (arith, nat_tests, c.in_err-check_there.ensures, c.from_residual.ensures)

pub returns-then-not-some_length : goal.returns-then-not-some_length
unfolding record_at whether length_at
returns-then-not-some_length c = grind (arith, nat_tests, c.in_ok-check_there.ensures)

pub returns-in_err-check_there-2 : goal.returns-in_err-check_there-2
unfolding record_at whether length_at
returns-in_err-check_there-2 c =
    grind (arith, nat_tests, c.in_err-check_there-2.ensures, c.from_residual-in_err-check_there-2.ensures)

pub returns-then-version-ne-VERSION : goal.returns-then-version-ne-VERSION
unfolding record_at whether length_at
returns-then-version-ne-VERSION c = grind (arith, nat_tests, c.in_ok-check_there-2.ensures)

pub returns-in_err-check_there-3 : goal.returns-in_err-check_there-3
unfolding record_at whether length_at
returns-in_err-check_there-3 c =
    grind (arith, nat_tests, c.in_err-check_there-3.ensures, c.from_residual-in_err-check_there-3.ensures)

pub returns-in_err-kind : goal.returns-in_err-kind
unfolding record_at whether length_at some_length
returns-in_err-kind c =
    grind (arith, nat_tests, c.of_byte.ensures, c.in_err-kind.ensures, c.from_residual-in_err-kind.ensures)

pub returns-then-length : goal.returns-then-length
unfolding record_at whether length_at
returns-then-length c = grind (arith, nat_tests, c.of_byte.ensures, c.in_ok-kind.ensures)

pub returns-in_err-check_there-4 : goal.returns-in_err-check_there-4
unfolding record_at whether length_at
returns-in_err-check_there-4 c =
    grind (
      arith,
      nat_tests,
      c.of_byte.ensures,
      c.in_ok-kind.ensures,
      c.in_err-check_there-4.ensures,
      c.from_residual-in_err-check_there-4.ensures,
    )

pub returns : goal.returns
unfolding record_at whether length_at
returns c = grind (arith, nat_tests, c.of_byte.ensures, c.in_ok-kind.ensures)
