-- `lines::decimals::put_decimal` meets its contract. Assumes nothing.
use native.Mathlib.Omega.{arith}
use Rattle.lines.proofs.Digits.{twenty_digits}
use Rattle.lines.proofs.decimals.put_decimal.Goals as goal

pub put_digits-requires : goal.put_digits-requires
put_digits-requires c = omega (arith, twenty_digits c.args.n (omega arith))

pub returns : goal.returns
returns c = (
  c.put_digits.ensures,
  omega (
    arith,
    c.put_digits.ensures.next,
    twenty_digits c.args.n (omega arith),
  ),
)
