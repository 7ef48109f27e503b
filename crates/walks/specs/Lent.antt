-- A walk that borrows the slots, and its step, in the terms of the rules. Assumes nothing.
use Rattle.std.proofs.Math.Option as maybe
use Rattle.std.specs.Prelude.{ℕ, ◌-◌, List, [], length, take, drop, Option, Result, Ok, Err}
use Rattle.elements.specs.Answers.{given}
use Rattle.queue.specs.Answers.{rec_of, number_of}
use Rattle.queue.specs.declared.refusals.Refusal.{Refusal}
use Rattle.rules.specs.Choices.{unless}
use Rattle.rules.specs.Records.{held}
use Rattle.rules.specs.Walks.{Walk, WalkStep, on_walk}
use Rattle.walks.specs.declared.lent.Iterator.{Iterator}
use Rattle.walks.specs.declared.lent.IteratorStep.{IteratorStep}

-- the walk that the rules speak of
abbrev pub iterator_walk : Iterator → Walk
iterator_walk i = record { rec = rec_of i.queue; low = i.low; high = i.high }

-- a step that gave this, or was refused, and left the walk w
abbrev pub step_to : Walk → Result (Option ℕ) Refusal → WalkStep
step_to w (Ok v) = record { refused = 0; walk = w; gives = given v }
step_to w (Err x) = record { refused = number_of x; walk = w; gives = maybe.none }

-- the step that the rules speak of
abbrev pub iterator_step : IteratorStep → WalkStep
iterator_step s = step_to (iterator_walk s.walk) s.number

-- what a walk has still to give
abbrev pub ahead : List ℕ → Walk → List ℕ
ahead b w = take (w.high - w.low) (drop w.low (held b w.rec))

-- the same, but nothing where a step of it is refused
unfoldable pub left_in : List ℕ → Walk → List ℕ
left_in b w = unless (on_walk (length b) w) (ahead b w) []

-- what a borrowing walk has still to give
abbrev pub left_over : Iterator → List ℕ
left_over i = left_in i.slots.now (iterator_walk i)
