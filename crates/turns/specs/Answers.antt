-- What the caller sees of a call on either of two queues. Assumes nothing.
use Rattle.std.specs.Prelude.{List, ℕ}
use Rattle.std.proofs.Math.Option.{none}
use Rattle.answers.specs.Answers.{both_states, of_step_answer}
use Rattle.queue.specs.Drains.{state_of}
use Rattle.rules.specs.Asks.{Sight}
use Rattle.rules.specs.Looks.{Look, refused_by, seen_by}
use Rattle.rules.specs.Outcome.{Answer, State}
use Rattle.rules.specs.Sequences.{Call, Queue, StepAnswer, Turn, first_step, pair_of, queue_of, step, told_step}
use Rattle.answers.specs.declared.pairs.StepAnswer.{StepAnswer as StepAnswered}
use Rattle.turns.specs.declared.held.Queue.{Queue as Held}

-- the queue that the rules speak of
abbrev pub held : Held → Queue
held q = queue_of q.slots.now (state_of q.state)

-- of a call that can change the first queue, where h' is held of the second
abbrev pub one_answered : Answer → State → StepAnswer
one_answered a h' = record {
  refused = a.refused;
  moved = a.moved;
  handed = a.handed;
  sight = none;
  a = a.state;
  b = h';
}

-- of a call that is passed over, where h and h' are held
abbrev pub none_answered : State → State → StepAnswer
none_answered h h' = both_states 0 0 h h'

-- of a look
abbrev pub look_answered : Look Sight → State → State → StepAnswer
look_answered l h h' = record {
  refused = refused_by l;
  moved = 0;
  handed = none;
  sight = seen_by l;
  a = h;
  b = h';
}

-- what the caller sees of a call that told r and left p and q: the answer, and the slots of either queue
abbrev pub told_left : StepAnswered → Queue → Queue → StepAnswer × List ℕ × List ℕ
told_left r p q = (of_step_answer r p.state q.state, p.slots, q.slots)

-- what it sees, by the rules, of the call k on the first of two queues
abbrev pub told_first : Queue → Queue → Call → StepAnswer × List ℕ × List ℕ
told_first p q k = told_step (first_step p q k)

-- and of the turn t on either
abbrev pub told_turn : Queue → Queue → Turn → StepAnswer × List ℕ × List ℕ
told_turn p q t = told_step (step (pair_of p q) t)
