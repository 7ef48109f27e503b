-- The answers that carry an element: each is fixed by what is said of it (see queue/proofs/Fixed). Assumes nothing.
use mathlib.Core.Option as maybe
use mathlib.Core.Path.{◌≡◌, refl, ap}
use Prim.Native.Nat.{ℕ}
use Rattle.std.specs.Prelude.{Option, None, Some, Result, Ok, Err}
use Rattle.elements.specs.Answers.{given, of_handed, of_drawn, of_step}
use Rattle.queue.proofs.Fixed.{fixed, by_number, refused-back, its_deque, its_drain, walk_from}
use Rattle.queue.proofs.FixedLooks.{one_look}
use Rattle.queue.specs.Looks.{look_of}
use Rattle.rules.specs.Choices.{unless}
use Rattle.rules.specs.Outcome.{Answer}
use Rattle.rules.specs.Walks.{WalkStep}
use Rattle.queue.specs.declared.records.Deque.{Deque}
use Rattle.queue.specs.declared.records.Drain.{Drain as Draining}
use Rattle.queue.specs.declared.records.Walk.{Walk}
use Rattle.queue.specs.declared.refusals.Refusal.{Refusal}
use Rattle.elements.specs.declared.answers.Handed.{Handed}
use Rattle.elements.specs.declared.answers.Step.{Step}

-- ---- an element, or none

abbrev pub given_from : maybe.Option ℕ → Option ℕ
given_from (maybe.some v) = Some v
given_from maybe.none = None

pub given_back : (a : Option ℕ) → given_from (given a) ≡ a
given_back (Some v) = refl
given_back None = refl

pub one_given : (a b : Option ℕ) → given a ≡ given b → a ≡ b
one_given = fixed given given_from given_back

pub one_found : (a b : Result (Option ℕ) Refusal) → look_of given a ≡ look_of given b → a ≡ b
one_found = one_look given given_from given_back

-- ---- for each answer the way back, and that it leads back; q, d, w are what the call was given

handed_from : Answer → Result (Handed Deque) Refusal
handed_from a =
    by_number a.refused (record { number = given_from a.handed; after = its_deque a.state; moved = a.moved })

handed-back : (q : Deque) (a : Result (Handed Deque) Refusal) → handed_from (of_handed q a) ≡ a
unfolding handed_from unless
handed-back q (Ok h) = ap (λ v. Ok (record { number = v; after = h.after; moved = h.moved })) (given_back h.number)
handed-back q (Err x) = refused-back x _

pub one_handed : (q : Deque) (a b : Result (Handed Deque) Refusal) → of_handed q a ≡ of_handed q b → a ≡ b
one_handed q = fixed (of_handed q) handed_from (handed-back q)

drawn_from : Answer → Result (Handed Draining) Refusal
drawn_from a =
    by_number a.refused (record { number = given_from a.handed; after = its_drain a.state; moved = a.moved })

drawn_back : (d : Draining) (a : Result (Handed Draining) Refusal) → drawn_from (of_drawn d a) ≡ a
unfolding drawn_from unless
drawn_back d (Ok h) = ap (λ v. Ok (record { number = v; after = h.after; moved = h.moved })) (given_back h.number)
drawn_back d (Err x) = refused-back x _

pub one_drawn : (d : Draining) (a b : Result (Handed Draining) Refusal) → of_drawn d a ≡ of_drawn d b → a ≡ b
one_drawn d = fixed (of_drawn d) drawn_from (drawn_back d)

step_from : WalkStep → Result Step Refusal
step_from s = by_number s.refused (record { number = given_from s.gives; walk = walk_from s.walk })

step_back : (w : Walk) (a : Result Step Refusal) → step_from (of_step w a) ≡ a
unfolding step_from unless
step_back w (Ok s) = ap (λ v. Ok (record { number = v; walk = s.walk })) (given_back s.number)
step_back w (Err x) = refused-back x _

pub one_step : (w : Walk) (a b : Result Step Refusal) → of_step w a ≡ of_step w b → a ≡ b
one_step w = fixed (of_step w) step_from (step_back w)
