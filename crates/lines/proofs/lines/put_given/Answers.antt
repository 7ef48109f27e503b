-- `lines::lines::put_given` meets its contract. Assumes nothing.
use Rattle.std.proofs.Common.{arith, sym, ap, ◌∷◌}
use Rattle.std.specs.Prelude.{ℕ, Option}
use Rattle.elements.specs.Answers.{given}
use Rattle.lines.proofs.Puts.{puts_as}
use Rattle.rules.specs.Replays.{space, number_or_none}
use Rattle.lines.proofs.lines.put_given.Goals as goal

pub returns-in-Some : goal.returns-in-Some
unfolding number_or_none
returns-in-Some c = (
  puts_as _ _ _ _ _ _ (ap (λ (h : Option ℕ). space ∷ number_or_none (given h)) (sym c.in-Some.is))
      c.put_word.ensures.0,
  c.put_word.ensures.1,
)

pub returns-in-None : goal.returns-in-None
unfolding number_or_none
returns-in-None c = (
  puts_as _ _ _ _ _ _ (ap (λ (h : Option ℕ). space ∷ number_or_none (given h)) (sym c.in-None.is)) c.put_text.ensures,
  omega (arith, c.put_text.ensures.next),
)
