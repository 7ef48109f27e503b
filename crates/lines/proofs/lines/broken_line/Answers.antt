-- `lines::lines::broken_line` meets its contract. Assumes nothing.
use native.Mathlib.Omega.{arith}
use mathlib.Core.Path.{◌∙◌}
use Rattle.lines.proofs.Words.{puts-broken}
use Rattle.queue.specs.Answers.{number_of}
use Rattle.lines.proofs.lines.broken_line.Goals as goal

pub returns : goal.returns
unfolding number_of
returns c =
    let numbers = rw (c.from-refused.ensures ∙ c.number.ensures) at c.put_numbers-a.ensures.0 in (
      puts-broken _ _ _ _ _ _ _ numbers c.put_newline.ensures,
      omega (arith, c.put_numbers-a.ensures.1, c.put_newline.ensures.next),
    )
