-- `lines::lines::answer_line` meets its contract. Assumes nothing.
use native.Mathlib.Omega.{arith}
use Rattle.answers.specs.Answers.{of_answer}
use Rattle.lines.proofs.Words.{puts-answer}
use Rattle.lines.proofs.lines.answer_line.Goals as goal

pub returns : goal.returns
returns c =
    let numbers = rw c.number_told-refused.ensures at c.put_numbers-a.ensures.0 in (
      puts-answer _ _ _ _ _ _ _ _ _ _ (of_answer c.args.done) _ c.record_or-queue.ensures numbers
          c.put_handed-b.ensures.0 c.put_newline.ensures,
      omega (arith, c.put_numbers-a.ensures.1, c.put_handed-b.ensures.1, c.put_newline.ensures.next),
    )
