-- Sequences of calls of the code: each call is given what the last
-- left, and of none more is known than its contract. Assumes nothing.
use Rattle.std.specs.Prelude.{List, [], ◌∷◌, ◌≡◌}
use Rattle.rules.specs.Sequences.{Pair, Turn, step, told_step}
use Rattle.answers.specs.Answers.{number_told}
use Rattle.turn_calls.specs.Calls.{turn_of}
use Rattle.turns.specs.Answers.{told_left}
use Rattle.answers.specs.declared.pairs.StepAnswer.{StepAnswer as StepAnswered}
use Rattle.turn_calls.specs.declared.Call.{Call}
use Rattle.turn_calls.specs.declared.Side.{Side}

-- from the queues s on, the calls ts were made one after the other, and left e; r and m are what a call told and the
-- queues that it left, as the contract of `turn` has them
pub data Played : Pair → List Turn → Pair → Type 0 where
  over : {s : Pair} → Played s [] s
  played : {s e : Pair} {ts : List Turn} (d : Side) (k : Call) (r : StepAnswered) (m : Pair)
      → told_left r m.a m.b ≡ told_step (step s (turn_of d k)) → Played m ts e → Played s (turn_of d k ∷ ts) e

-- each of them told that it was not refused
unfoldable pub AllAnswered : {s e : Pair} {ts : List Turn} → Played s ts e → Type 0
AllAnswered over = Unit {0}
AllAnswered (played d k r m f p) = (number_told r.refused ≡ 0) × AllAnswered p
