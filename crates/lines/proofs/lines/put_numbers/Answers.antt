-- `lines::lines::put_numbers` meets its contract. Assumes nothing.
use native.Mathlib.Omega.{arith}
use Rattle.lines.proofs.Words.{puts-numbers}
use Rattle.lines.proofs.lines.put_numbers.Goals as goal

pub returns : goal.returns
returns c = (
  puts-numbers _ _ _ _ _ _ _ _ _ _ _ _ _ _
      c.as_index.ensures
      c.put_decimal-a.ensures.0
      c.put_word-b.ensures.0 c.put_word-c.ensures.0
      c.put_word.ensures.0,
  omega (
    arith,
    c.put_decimal-a.ensures.1,
    c.put_word-b.ensures.1,
    c.put_word-c.ensures.1,
    c.put_word.ensures.1,
  ),
)
