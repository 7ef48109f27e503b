-- `lines::lines::put_handed` meets its contract. Assumes nothing.
use native.Mathlib.Omega.{arith}
use Rattle.elements.specs.Answers.{given}
use Rattle.lines.proofs.Words.{says, says_nothing}
use mathlib.Core.Logic.{⊎_elim}
use Rattle.lines.proofs.lines.put_handed.Goals as goal

pub returns-in-PopFront : goal.returns-in-PopFront
returns-in-PopFront c = (
  says _ _ c.args.operation _ _ _
      c.in-PopFront.is c.put_given.ensures.0,
  c.put_given.ensures.1,
)

pub returns-in_default : goal.returns-in_default
returns-in_default c = (
  says_nothing _ _ c.args.operation (given c.args.handed)
      (⊎_elim c.in_default.not-PopFront (⊎_elim c.in_default.not-PopBack (λ k. c.in_default.not-Remove k.0 k.1))),
  omega arith,
)
