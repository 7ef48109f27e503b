-- The one form of all answers: it is fixed by what is said of it (see queue/proofs/Fixed). Assumes nothing.
use mathlib.Core.Option as maybe
use mathlib.Core.Path.{◌≡◌, refl, ◌∙◌, ap}
use Prim.Native.Nat.{ℕ}
use Rattle.std.specs.Prelude.{Option, None, Some, Result}
use Rattle.answers.specs.Answers.{number_told, of_answer, of_step_answer}
use Rattle.answers.specs.Sights.{of_sight, seen_of}
use Rattle.elements.proofs.Fixed.{given_from, given_back}
use Rattle.queue.proofs.Fixed.{fixed, named, named_back, state_from, state-back}
use Rattle.queue.proofs.FixedLooks.{one_look, runs_from, order_from, order_back, spot_from, spot_back}
use Rattle.queue.proofs.Numbers.{some_number}
use Rattle.queue.specs.Answers.{number_of}
use Rattle.queue.specs.Looks.{look_of}
use Rattle.rules.proofs.Choices.{unless-stop}
use Rattle.rules.specs.Asks as rules
use Rattle.rules.specs.Choices.{unless}
use Rattle.rules.specs.Outcome.{Answer, State}
use Rattle.rules.specs.Sequences.{StepAnswer}
use Rattle.queue.specs.declared.refusals.Refusal.{Refusal}
use Rattle.answers.specs.declared.sights.Sight.{Sight}
use Rattle.answers.specs.declared.sights.Sight.TheVariants.{Element, Truth, Ordered, Spot, Count, Ranges}
use Rattle.answers.specs.declared.pairs.StepAnswer.{StepAnswer as StepAnswered}
use Rattle.answers.specs.declared.singles.Answer.{Answer as Answered}

-- ---- why a call was refused, if it was

refusal_from : ℕ → Option Refusal
refusal_from n = unless n None (Some (named n))

refusal_back : (a : Option Refusal) → refusal_from (number_told a) ≡ a
unfolding refusal_from unless
refusal_back None = refl
refusal_back (Some x) =
    unless-stop (number_of x) None (Some (named (number_of x))) (some_number x) ∙ ap Some (named_back x)

-- ---- what was seen; the bytes of an image are no sight of the code, so of those any will do

sight_from : rules.Sight → Sight
sight_from (rules.element v) = Element (given_from v)
sight_from (rules.truth t) = Truth t
sight_from (rules.ordered o) = Ordered (order_from o)
sight_from (rules.spot p) = Spot (spot_from p)
sight_from (rules.count n) = Count n
sight_from (rules.ranges t) = Ranges (runs_from t)
sight_from (rules.image s) = Count 0

sight-back : (a : Sight) → sight_from (of_sight a) ≡ a
unfolding sight_from
sight-back (Element v) = ap Element (given_back v)
sight-back (Truth t) = refl
sight-back (Ordered o) = ap Ordered (order_back o)
sight-back (Spot p) = ap Spot (spot_back p)
sight-back (Count n) = refl
sight-back (Ranges r) = refl

pub one_sight : (a b : Sight) → of_sight a ≡ of_sight b → a ≡ b
one_sight = fixed of_sight sight_from sight-back

pub one_looked : (a b : Result Sight Refusal) → look_of of_sight a ≡ look_of of_sight b → a ≡ b
one_looked = one_look of_sight sight_from sight-back

seen_from : maybe.Option rules.Sight → Option Sight
seen_from (maybe.some s) = Some (sight_from s)
seen_from maybe.none = None

seen_back : (a : Option Sight) → seen_from (seen_of a) ≡ a
unfolding seen_from
seen_back (Some s) = ap Some (sight-back s)
seen_back None = refl

-- ---- the structs, field by field

answer_from : Answer → Answered
answer_from a = record {
  refused = refusal_from a.refused;
  moved = a.moved;
  state = state_from a.state;
  handed = given_from a.handed;
}

answer_back : (a : Answered) → answer_from (of_answer a) ≡ a
unfolding answer_from
answer_back a i = record {
  refused = refusal_back a.refused i;
  moved = a.moved;
  state = state-back a.state i;
  handed = given_back a.handed i;
}

pub one_answer : (a b : Answered) → of_answer a ≡ of_answer b → a ≡ b
one_answer = fixed of_answer answer_from answer_back

step_answer_from : StepAnswer → StepAnswered
step_answer_from s = record {
  refused = refusal_from s.refused;
  moved = s.moved;
  handed = given_from s.handed;
  sight = seen_from s.sight;
}

step-answer-back : (h h' : State) (s : StepAnswered) → step_answer_from (of_step_answer s h h') ≡ s
unfolding step_answer_from
step-answer-back h h' s i = record {
  refused = refusal_back s.refused i;
  moved = s.moved;
  handed = given_back s.handed i;
  sight = seen_back s.sight i;
}

-- h and h' are the records that were left
pub one_step-answer : (h h' : State) (s t : StepAnswered) → of_step_answer s h h' ≡ of_step_answer t h h' → s ≡ t
one_step-answer h h' = fixed (λ s. of_step_answer s h h') step_answer_from (step-answer-back h h')
