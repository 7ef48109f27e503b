-- The steps of calls on two queues, from what the calls answer: p is the answer in the one form, x and x' are the slots
-- after. Assumes nothing.
use mathlib.Core.List.{List}
use mathlib.Core.Path.{◌≡◌, ◌∙◌, ap}
use Prim.Native.Nat.{ℕ}
use Rattle.rules.specs.Asks.{Sight}
use Rattle.rules.specs.Looks.{Look}
use Rattle.rules.specs.Outcome.{Answer, State, Outcome, told}
use Rattle.rules.specs.Pairs.{PairAnswer, PairOutcome, told_pair}
use Rattle.rules.specs.Sequences.{StepAnswer, Queue, still_step, look_step, one_step, both_step, told_step}
use Rattle.answers.specs.Answers.{both_answered}
use Rattle.turns.specs.Answers.{one_answered, look_answered}

-- a call that can change the first queue leaves the second
pub one_told : (q : Queue) (o : Outcome) (p : StepAnswer) (a : Answer) (x y : List ℕ) → p ≡ one_answered a q.state
    → x ≡ y → (a, y) ≡ told o → (p, x, q.slots) ≡ told_step (one_step q o)
unfolding one_step
one_told q o p a x y same s e =
    (λ i. (same i, s i, q.slots)) ∙ ap (λ (t : Answer × List ℕ). (one_answered t.0 q.state, t.1, q.slots)) e

-- a look leaves both
pub look_told_lem : (v w : Queue) (p : StepAnswer) (l m : Look Sight) → p ≡ look_answered l v.state w.state → l ≡ m
    → (p, v.slots, w.slots) ≡ told_step (look_step v w m)
unfolding look_step still_step
look_told_lem v w p l m same e =
    (λ i. (same i, v.slots, w.slots)) ∙ ap (λ k. (look_answered k v.state w.state, v.slots, w.slots)) e

-- a call that can change both
pub both_told : (h' : State) (m : PairOutcome) (gone : List ℕ) (p : StepAnswer) (k : PairAnswer) (x x' y y' : List ℕ)
    → p ≡ both_answered h' k → x ≡ y → x' ≡ y' → (k, y, y') ≡ told_pair m → (p, x, x') ≡ told_step (both_step h' m gone)
unfolding both_step
both_told h' m gone p k x x' y y' same s s' e =
    (λ i. (same i, s i, s' i)) ∙ ap (λ (t : PairAnswer × List ℕ × List ℕ). (both_answered h' t.0, t.1, t.2)) e
