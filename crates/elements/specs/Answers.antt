-- The answers that carry an element, in the terms of the rules: number and values for each case. Assumes nothing.
use Rattle.std.proofs.Math.Option as maybe
use Rattle.std.specs.Prelude.{ℕ, Option, None, Some, Result, Ok, Err}
use Rattle.queue.specs.Answers.{number_of, queued}
use Rattle.queue.specs.Drains.{drained}
use Rattle.queue.specs.Looks.{walk_of}
use Rattle.rules.specs.Outcome.{Answer, State}
use Rattle.rules.specs.Walks.{WalkStep}
use Rattle.queue.specs.declared.records.Deque.{Deque}
use Rattle.queue.specs.declared.records.Drain.{Drain as Draining}
use Rattle.queue.specs.declared.records.Walk.{Walk}
use Rattle.queue.specs.declared.refusals.Refusal.{Refusal}
use Rattle.elements.specs.declared.answers.Handed.{Handed}
use Rattle.elements.specs.declared.answers.Step.{Step}

-- the number that was handed over, if there is one
abbrev pub given : Option ℕ → maybe.Option ℕ
given (Some v) = maybe.some v
given None = maybe.none

-- an answer that can hand an element over, where f tells the record that it leaves: refused, `before` stands and nothing
-- moved
abbrev pub handing : {R : Type 0} → (R → State) → State → Result (Handed R) Refusal → Answer
handing f before (Ok h) = record { refused = 0; moved = h.moved; state = f h.after; handed = given h.number }
handing f before (Err x) = record { refused = number_of x; moved = 0; state = before; handed = maybe.none }

-- of a call on the queue q
abbrev pub of_handed : Deque → Result (Handed Deque) Refusal → Answer
of_handed q a = handing queued (queued q) a

-- of `next` and `next_back` of the drain d
abbrev pub of_drawn : Draining → Result (Handed Draining) Refusal → Answer
of_drawn d a = handing drained (drained d) a

-- a walk's step: refusal number, the walk after it, and what it gives; refused, the same walk w
abbrev pub of_step : Walk → Result Step Refusal → WalkStep
of_step w (Ok s) = record { refused = 0; walk = walk_of s.walk; gives = given s.number }
of_step w (Err x) = record { refused = number_of x; walk = walk_of w; gives = maybe.none }
