-- A borrowing walk, and its step, are fixed by their slots and by what is said of the walk or the step (see
-- queue/proofs/Fixed). Assumes nothing.
use mathlib.Core.List.{List}
use mathlib.Core.Path.{◌≡◌, refl, ap}
use Prim.Native.Nat.{ℕ}
use denote.Ref.{Bor}
use Rattle.std.specs.Prelude.{Option, Result, Ok, Err}
use Rattle.elements.proofs.Fixed.{given_from, given_back}
use Rattle.queue.proofs.Fixed.{fixed, by_number, refused-back, deque_from}
use Rattle.queue.specs.declared.refusals.Refusal.{Refusal}
use Rattle.rules.specs.Choices.{unless}
use Rattle.rules.specs.Walks.{Walk, WalkStep}
use Rattle.walks.specs.Lent.{iterator_walk, iterator_step, step_to}
use Rattle.walks.specs.declared.lent.Iterator.{Iterator}
use Rattle.walks.specs.declared.lent.IteratorStep.{IteratorStep}

-- the slots, and the walk
iterator_said : Iterator → Bor (List ℕ) × Walk
iterator_said i = (i.slots, iterator_walk i)

iterator_from : Bor (List ℕ) × Walk → Iterator
iterator_from s = record { slots = s.0; queue = deque_from s.1.rec; low = s.1.low; high = s.1.high }

pub one_iterator : (a b : Iterator) → a.slots ≡ b.slots → iterator_walk a ≡ iterator_walk b → a ≡ b
unfolding iterator_said iterator_from
one_iterator a b e f = fixed iterator_said iterator_from (λ i. refl) a b (λ i. (e i, f i))

-- the number that a step gave, or its refusal
number_from : WalkStep → Result (Option ℕ) Refusal
number_from s = by_number s.refused (given_from s.gives)

number_back : (w : Walk) (a : Result (Option ℕ) Refusal) → number_from (step_to w a) ≡ a
unfolding number_from unless
number_back w (Ok v) = ap Ok (given_back v)
number_back w (Err x) = refused-back x _

walk_back : (w : Walk) (a : Result (Option ℕ) Refusal) → (step_to w a).walk ≡ w
walk_back w (Ok v) = refl
walk_back w (Err x) = refl

-- the slots of the walk after it, and the step
step_said : IteratorStep → Bor (List ℕ) × WalkStep
step_said s = (s.walk.slots, iterator_step s)

step_from : Bor (List ℕ) × WalkStep → IteratorStep
step_from s = record { number = number_from s.1; walk = iterator_from (s.0, s.1.walk) }

step_leads : (s : IteratorStep) → step_from (step_said s) ≡ s
unfolding step_said step_from iterator_from
step_leads s = rw (number_back (iterator_walk s.walk) s.number, walk_back (iterator_walk s.walk) s.number)

pub one_iterator_step : (a b : IteratorStep) → a.walk.slots ≡ b.walk.slots → iterator_step a ≡ iterator_step b → a ≡ b
unfolding step_said
one_iterator_step a b e f = fixed step_said step_from step_leads a b (λ i. (e i, f i))
