-- The one form of all answers, in the terms of the rules. Assumes nothing.
use Rattle.std.proofs.Math.Option.{none}
use Rattle.std.specs.Prelude.{ℕ, Option, None, Some, Result, Ok, Err}
use Rattle.elements.specs.Answers.{given}
use Rattle.queue.specs.Answers.{number_of, queued}
use Rattle.queue.specs.Drains.{state_of}
use Rattle.rules.specs.Makes.{MakeAnswer}
use Rattle.rules.specs.Outcome.{Answer, State, shut}
use Rattle.rules.specs.Pairs.{PairAnswer}
use Rattle.rules.specs.Sequences.{StepAnswer, made_or}
use Rattle.answers.specs.Sights.{seen_of}
use Rattle.answers.specs.declared.singles.Answer.{Answer as Answered}
use Rattle.answers.specs.declared.pairs.StepAnswer.{StepAnswer as StepAnswered}
use Rattle.queue.specs.declared.answers.Change.{Change}
use Rattle.queue.specs.declared.answers.Pair.{Pair}
use Rattle.queue.specs.declared.refusals.Refusal.{Refusal}

-- the number that is told of a call: its refusal's, 0 if there is none
abbrev pub number_told : Option Refusal → ℕ
number_told None = 0
number_told (Some x) = number_of x

-- of a call on one queue: refusal number, moved count, record and what was handed over
abbrev pub of_answer : Answered → Answer
of_answer p = record {
  refused = number_told p.refused;
  moved = p.moved;
  state = state_of p.state;
  handed = given p.handed;
}

-- of a call on either of two: the same, with what was seen, and h and h' as the records that it leaves
abbrev pub of_step_answer : StepAnswered → State → State → StepAnswer
of_step_answer p h h' = record {
  refused = number_told p.refused;
  moved = p.moved;
  handed = given p.handed;
  sight = seen_of p.sight;
  a = h;
  b = h';
}

-- refusal number and moved count, where h is held and nothing is handed over
abbrev pub refusing : ℕ → ℕ → State → Answer
refusing n m h = record { refused = n; moved = m; state = h; handed = none }

-- of a call that makes a record, where h was held before
abbrev pub made_answer : State → MakeAnswer → Answer
made_answer h m = refusing m.refused m.moved (made_or h m.made)

-- refusal number and moved count, where h and h' are held and nothing is handed over or seen
abbrev pub both_states : ℕ → ℕ → State → State → StepAnswer
both_states n m h h' = record { refused = n; moved = m; handed = none; sight = none; a = h; b = h' }

-- of a call on both, where h' was held of the second before
abbrev pub both_answered : State → PairAnswer → StepAnswer
both_answered h' m = both_states m.refused m.moved (shut m.rec) (made_or h' m.other)

-- the same of its answer, where h and h' were held before: refused, both stand
abbrev pub changing_both : State → State → Result (Change Pair) Refusal → StepAnswer
changing_both h h' (Ok c) = both_states 0 c.moved (queued c.after.queue) (queued c.after.other)
changing_both h h' (Err x) = both_states (number_of x) 0 h h'
