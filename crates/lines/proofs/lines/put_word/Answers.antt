-- `lines::lines::put_word` meets its contract. Assumes nothing.
use Rattle.std.proofs.Common.{arith}
use Rattle.lines.proofs.Puts.{puts-append}
use Rattle.lines.proofs.lines.put_word.Goals as goal

pub returns : goal.returns
returns c = (
  puts-append _ _ _ _ _ _ _ _ c.put_text-behind.ensures c.put_decimal.ensures.0,
  omega (arith, c.put_text-behind.ensures.next, c.put_decimal.ensures.1),
)
