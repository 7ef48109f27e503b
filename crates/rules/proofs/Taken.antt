-- What a call takes of two fit queues: the records that it asks for, which are good, or nothing. Assumes nothing.
use mathlib.Core.List.{List}
use Prim.Native.Nat.{ℕ, ◌≤◌}
use lib.ListN.{length}
use Rattle.rules.proofs.Drains.{GoodDrain}
use Rattle.rules.proofs.Fit.{Fit, shut_good, draining_good}
use Rattle.rules.proofs.Refusals.{Good}
use Rattle.rules.specs.Drains.{Drain}
use Rattle.rules.specs.Outcome.{State, shut, draining}
use Rattle.rules.specs.Records.{Rec}
use Rattle.rules.specs.Refusals.{most_slots}
use Rattle.rules.specs.Sequences.{Call, Taken, passed_over, QueueCall, queue_taken, DrainCall, drain_taken, PairCall, both_taken, takes, if_shut, if_draining, of_queue, of_drain, of_both}

-- what holds where a call is passed over, and where it takes what it asks for, holds of every call
pub by_taking : (h h' : State) (k : Call) (P : State → State → Taken → Type 0)
    → P h h' passed_over
    → ((r : Rec) (k : QueueCall) → P (shut r) h' (queue_taken r k))
    → ((d : Drain) (k : DrainCall) → P (draining d) h' (drain_taken d k))
    → ((r r' : Rec) (k : PairCall) → P (shut r) (shut r') (both_taken r r' k))
    → P h h' (takes h h' k)
unfolding takes if_shut if_draining
by_taking (shut r) h' (of_queue k) P over queue drain both = queue r k
by_taking (draining d) h' (of_queue k) P over queue drain both = over
by_taking (shut r) h' (of_drain k) P over queue drain both = over
by_taking (draining d) h' (of_drain k) P over queue drain both = drain d k
by_taking (shut r) (shut r') (of_both k) P over queue drain both = both r r' k
by_taking (shut r) (draining d') (of_both k) P over queue drain both = over
by_taking (draining d) h' (of_both k) P over queue drain both = over

-- the same of two fit queues: what is taken is good
pub by_taken : {b : List ℕ} {h : State} {b' : List ℕ} {h' : State} → Fit b h → Fit b' h'
    → (k : Call) (P : State → State → Taken → Type 0)
    → P h h' passed_over
    → ((r : Rec) → Good (length b) r → (k : QueueCall) → P (shut r) h' (queue_taken r k))
    → ((d : Drain) → length b ≤ most_slots → GoodDrain (length b) d → (k : DrainCall)
    → P (draining d) h' (drain_taken d k))
    → ((r r' : Rec) → Good (length b) r → Good (length b') r' → (k : PairCall)
    → P (shut r) (shut r') (both_taken r r' k))
    → P h h' (takes h h' k)
by_taken {b} {h} {b'} {h'} f f' k P over queue drain both =
    by_taking h h' k (λ h h' t. Fit b h → Fit b' h' → P h h' t) (λ f f'. over)
    (λ r k f f'. queue r (shut_good f) k)
    (λ d k f f'. drain d (draining_good f).0 (draining_good f).1 k)
    (λ r r' k f f'. both r r' (shut_good f) (shut_good f') k) f f'

-- what holds of a and of f holds of the choice by what is held
pub by_shut : {A : Type 0} {a : A} {f : Rec → A} (h : State) (P : A → Type 0) → P a → ((r : Rec) → P (f r))
    → P (if_shut a f h)
unfolding if_shut
by_shut (shut r) P o k = k r
by_shut (draining d) P o k = o
