-- ONE POSSIBLE ANSWER. A contract equates what is said of an answer, document 01's number and values for it, with what
-- the rules say. Here and in the files below it is proved that an answer is fixed by what is said of it: two of which
-- the same is said are one. So each contract leaves one possible answer, a refused one too. What is fixed where:
--   queue/proofs/Fixed: Refusal; Deque, Drain, State, Walk, Span; what the tests answer, and each call that changes a
--     queue and hands nothing over
--   queue/proofs/FixedLooks: what a look answers, with Runs, an order, a place in a search
--   elements/proofs/Fixed: Handed, Step, an element or none
--   walks/proofs/Fixed: Iterator, IteratorStep
--   answers/proofs/Fixed: Sight, Answer, StepAnswer
--   journals/proofs/Fixed: Operation, Record
--   replies/proofs/Fixed: Reply, FoundReply, TruthReply, OrderReply, SearchReply, CountReply, a test by its kind
-- Assumes nothing.
use mathlib.Core.Option.{Option, none, some}
use mathlib.Core.Path.{◌≡◌, refl, sym, ◌∙◌, ap}
use Prim.Native.Nat.{ℕ}
use lib.Dec.{eqb}
use Rattle.std.specs.Prelude.{Result, Ok, Err}
use Rattle.rules.proofs.Choices.{unless-stop}
use Rattle.rules.specs.Choices.{whether, unless}
use Rattle.rules.specs.Drains.{Drain, as_opened, opened}
use Rattle.rules.specs.Makes.{MakeAnswer}
use Rattle.rules.specs.Outcome.{Answer, State, shut, draining}
use Rattle.rules.specs.Pairs.{PairAnswer}
use Rattle.rules.specs.Records.{Rec, new_rec}
use Rattle.rules.specs.Runs as rules
use Rattle.rules.specs.Walks.{Walk as RuledWalk}
use Rattle.queue.proofs.Numbers.{some_number}
use Rattle.queue.specs.Answers.{rec_of, number_of, number_in, of_change, of_made}
use Rattle.queue.specs.Drains.{drain_of, state_of, of_opened, of_closed}
use Rattle.queue.specs.Looks.{walk_of, span_of}
use Rattle.queue.specs.Pairs.{of_joined, of_split}
use Rattle.queue.specs.declared.records.Deque.{Deque}
use Rattle.queue.specs.declared.records.Drain.{Drain as Draining}
use Rattle.queue.specs.declared.records.State.{State as Kept}
use Rattle.queue.specs.declared.records.State.TheVariants as kept
use Rattle.queue.specs.declared.records.Walk.{Walk}
use Rattle.queue.specs.declared.records.Span.{Span}
use Rattle.queue.specs.declared.refusals.Refusal.{Refusal}
use Rattle.queue.specs.declared.refusals.Refusal.TheVariants.{Slots, Record, Position, Room, Image, Open}
use Rattle.queue.specs.declared.answers.Change.{Change}
use Rattle.queue.specs.declared.answers.Pair.{Pair}

-- what has a way back is fixed by what is said of it
pub fixed : {A B : Type 0} (say : A → B) (back : B → A) → ((a : A) → back (say a) ≡ a)
    → (a b : A) → say a ≡ say b → a ≡ b
fixed say back leads a b e = sym (leads a) ∙ ap back e ∙ leads b

-- so of two answers r and r', with x and x' left in the slots, that meet one contract, neither differs
pub one_possible : {A B C : Type 0} (say : A → B) → ((a b : A) → say a ≡ say b → a ≡ b)
    → (told : B × C) (r r' : A) (x x' : C) → (say r, x) ≡ told → (say r', x') ≡ told → (r ≡ r') × (x ≡ x')
one_possible {A} {B} {C} say one told r r' x x' e e' =
    let same = e ∙ sym e' in (one r r' (ap (λ (t : B × C). t.0) same), ap (λ (t : B × C). t.1) same)

-- ---- the refusals

-- the refusal of a number
unfoldable pub named : ℕ → Refusal
named n =
    whether (eqb n 1) Slots
    (whether (eqb n 2) Record
    (whether (eqb n 3) Position (whether (eqb n 4) Room (whether (eqb n 5) Image Open))))

pub named_back : (x : Refusal) → named (number_of x) ≡ x
unfolding named number_of whether
named_back Slots = refl
named_back Record = refl
named_back Position = refl
named_back Room = refl
named_back Image = refl
named_back Open = refl

-- the answer for a refusal number: a where it is 0, else the refusal
abbrev pub by_number : {A : Type 0} → ℕ → A → Result A Refusal
by_number n a = unless n (Ok a) (Err (named n))

-- of a refused answer it leads back
pub refused-back : {A : Type 0} (x : Refusal) (a : A) → by_number (number_of x) a ≡ Err x
refused-back x a = unless-stop (number_of x) (Ok a) (Err (named (number_of x))) (some_number x) ∙ ap Err (named_back x)

-- what the tests answer
checked_from : ℕ → Result Unit Refusal
checked_from n = by_number n tt

checked_back : (a : Result Unit Refusal) → checked_from (number_in a) ≡ a
unfolding checked_from unless
checked_back (Ok tt) = refl
checked_back (Err x) = refused-back x _

pub one_checked : (a b : Result Unit Refusal) → number_in a ≡ number_in b → a ≡ b
one_checked = fixed number_in checked_from checked_back

-- ---- the records: the way back from those that the rules speak of

abbrev pub deque_from : Rec → Deque
deque_from r = record { head = record { 0 = r.head }; len = r.len; mark = r.mark }

abbrev pub drain_from : Drain → Draining
drain_from d = record {
  head = record { 0 = d.head };
  start = d.start;
  drain_len = d.drained;
  idx = d.idx;
  tail_len = d.tail;
  remaining = d.remaining;
}

abbrev pub state_from : State → Kept
state_from (shut r) = kept.Shut (deque_from r)
state_from (draining d) = kept.Draining (drain_from d)

abbrev pub walk_from : RuledWalk → Walk
walk_from w = record { queue = deque_from w.rec; low = w.low; high = w.high }

abbrev pub span_from : rules.Span → Span
span_from p = record { start = p.a; end = p.e }

pub one_deque : (a b : Deque) → rec_of a ≡ rec_of b → a ≡ b
one_deque = fixed rec_of deque_from (λ q. refl)

pub one_drain : (a b : Draining) → drain_of a ≡ drain_of b → a ≡ b
one_drain = fixed drain_of drain_from (λ d. refl)

pub state-back : (a : Kept) → state_from (state_of a) ≡ a
state-back (kept.Shut q) = refl
state-back (kept.Draining d) = refl

pub one_state : (a b : Kept) → state_of a ≡ state_of b → a ≡ b
one_state = fixed state_of state_from state-back

pub one_walk : (a b : Walk) → walk_of a ≡ walk_of b → a ≡ b
one_walk = fixed walk_of walk_from (λ w. refl)

pub one_span : (a b : Span) → span_of a ≡ span_of b → a ≡ b
one_span = fixed span_of span_from (λ p. refl)

-- the record of an answer with a queue's, or with a drain's; where it is the other's, any will do
abbrev pub its_deque : State → Deque
its_deque (shut r) = deque_from r
its_deque (draining d) = deque_from (as_opened d)

abbrev pub its_drain : State → Draining
its_drain (shut r) = drain_from (opened r 0 0)
its_drain (draining d) = drain_from d

-- the record of an answer that makes one; where it makes none, any will do
abbrev or_new : Option Rec → Deque
or_new none = deque_from (new_rec 0)
or_new (some r) = deque_from r

-- ---- the answers: for each the way back, and that it leads back; q, d, o are what the call was given

change_from : Answer → Result (Change Deque) Refusal
change_from a = by_number a.refused (record { after = its_deque a.state; moved = a.moved })

change_back : (q : Deque) (a : Result (Change Deque) Refusal) → change_from (of_change q a) ≡ a
unfolding change_from unless
change_back q (Ok c) = refl
change_back q (Err x) = refused-back x _

pub one_change : (q : Deque) (a b : Result (Change Deque) Refusal) → of_change q a ≡ of_change q b → a ≡ b
one_change q = fixed (of_change q) change_from (change_back q)

made_from : MakeAnswer → Result (Change Deque) Refusal
made_from a = by_number a.refused (record { after = or_new a.made; moved = a.moved })

made-back : (a : Result (Change Deque) Refusal) → made_from (of_made a) ≡ a
unfolding made_from unless
made-back (Ok c) = refl
made-back (Err x) = refused-back x _

pub one_made : (a b : Result (Change Deque) Refusal) → of_made a ≡ of_made b → a ≡ b
one_made = fixed of_made made_from made-back

opened_from : Answer → Result (Change Draining) Refusal
opened_from a = by_number a.refused (record { after = its_drain a.state; moved = a.moved })

opened-back : (q : Deque) (a : Result (Change Draining) Refusal) → opened_from (of_opened q a) ≡ a
unfolding opened_from unless
opened-back q (Ok c) = refl
opened-back q (Err x) = refused-back x _

pub one_opened : (q : Deque) (a b : Result (Change Draining) Refusal) → of_opened q a ≡ of_opened q b → a ≡ b
one_opened q = fixed (of_opened q) opened_from (opened-back q)

closed_back : (d : Draining) (a : Result (Change Deque) Refusal) → change_from (of_closed d a) ≡ a
unfolding change_from unless
closed_back d (Ok c) = refl
closed_back d (Err x) = refused-back x _

pub one_closed : (d : Draining) (a b : Result (Change Deque) Refusal) → of_closed d a ≡ of_closed d b → a ≡ b
one_closed d = fixed (of_closed d) change_from (closed_back d)

paired_from : PairAnswer → Result (Change Pair) Refusal
paired_from a =
    by_number a.refused
    (record { after = record { queue = deque_from a.rec; other = or_new a.other }; moved = a.moved })

joined_back : (q o : Deque) (a : Result (Change Pair) Refusal) → paired_from (of_joined q o a) ≡ a
unfolding paired_from unless
joined_back q o (Ok c) = refl
joined_back q o (Err x) = refused-back x _

pub one_joined : (q o : Deque) (a b : Result (Change Pair) Refusal) → of_joined q o a ≡ of_joined q o b → a ≡ b
one_joined q o = fixed (of_joined q o) paired_from (joined_back q o)

split_back : (q : Deque) (a : Result (Change Pair) Refusal) → paired_from (of_split q a) ≡ a
unfolding paired_from unless
split_back q (Ok c) = refl
split_back q (Err x) = refused-back x _

pub one_split : (q : Deque) (a b : Result (Change Pair) Refusal) → of_split q a ≡ of_split q b → a ≡ b
one_split q = fixed (of_split q) paired_from (split_back q)
