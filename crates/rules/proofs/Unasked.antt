-- Where the mark of a queue is not asked: by looks, and by the calls that reach the queue. Assumes nothing.
use mathlib.Core.Bool.{Bool, true, false}
use mathlib.Core.List.{List}
use mathlib.Core.Logic.{◌≢◌}
use mathlib.Core.Path.{◌≡◌, refl, ◌∙◌, sym}
use Prim.Native.Nat.{ℕ, zero, suc}
use native.Mathlib.Omega.{arith}
use lib.ListN.{length}
use Rattle.rules.proofs.Choices.{by-refusal}
use Rattle.rules.proofs.Taken.{by_shut}
use Rattle.rules.proofs.Theorems.{Looks, at_one, at_both}
use Rattle.rules.specs.Asks.{Ask, AskBoth, answered, answered_both, get?, front?, back?, contains?, slice_ranges?, binary_search?, partition_point?, write_image?, eq?, cmp?}
use Rattle.rules.specs.Choices.{ask, unless}
use Rattle.rules.specs.Images.{on_writing}
use Rattle.rules.specs.Looks.{looked, seen_as, refused_by, look_at, look_at_both}
use Rattle.rules.specs.Outcome.{State, shut, draining}
use Rattle.rules.specs.Pairs.{PairOutcome, crossing}
use Rattle.rules.specs.Portions.{across, Reaches, portion_into, by_fresh, by_reading, by_split, by_move}
use Rattle.rules.specs.Records.{Rec, with_mark}
use Rattle.rules.specs.Refusals.{on_slots, good_rec, on_queue, in_range, on_range, room}
use Rattle.rules.specs.Regions.{on_portion, ported, do_portion}
use Rattle.rules.specs.Runs.{look_runs}
use Rattle.rules.specs.Search.{search_for, partition_by}
use Rattle.rules.specs.Sequences.{Queue, Pair, PairCall, do_make, Call, Side, side_a, side_b, Turn, of_both, splitting, moving, porting, takes, if_shut, taken_step, queue_step, pair_step, look_step, still_step, one_step, both_step, do_on_queue, first_step, facing, step, queue_of, pair_of}

-- ---- looks ask no 6

-- a test with another number, and what is asked after it
asks_other : (t : Bool) (n k : ℕ) → n ≢ 6 → k ≢ 6 → ask t n k ≢ 6
unfolding ask
asks_other true n k ne ke = ke
asks_other false n k ne ke = ne

queue-other : (c : ℕ) (r : Rec) (k : ℕ) → k ≢ 6 → on_queue c r k ≢ 6
unfolding on_queue on_slots
queue-other c r k ke = asks_other _ 1 _ (λ e. omega arith) (asks_other _ 2 k (λ e. omega arith) ke)

-- a look that asks n, and tells what it saw by f
look_other : {A : Type 0} (n : ℕ) (a : A) → n ≢ 6 → refused_by (looked n a) ≢ 6
unfolding looked unless refused_by
look_other zero a ne = ne
look_other (suc n) a ne = ne

seen_other : {A B : Type 0} (f : A → B) (n : ℕ) (a : A) → n ≢ 6 → refused_by (seen_as f (looked n a)) ≢ 6
unfolding looked unless seen_as refused_by
seen_other f zero a ne = ne
seen_other f (suc n) a ne = ne

-- those at a queue
module _ (b : List ℕ) (r : Rec) where
  plain : {A B : Type 0} (f : A → B) (a : A) → refused_by (seen_as f (looked (on_queue (length b) r 0) a)) ≢ 6
  plain f a = seen_other f _ a (queue-other (length b) r 0 (λ e. omega arith))

  answered-other : (k : Ask) → refused_by (answered b r k) ≢ 6
  unfolding answered look_at look_runs search_for partition_by on_range in_range on_writing room
  answered-other (get? i) = plain _ _
  answered-other front? = plain _ _
  answered-other back? = plain _ _
  answered-other (contains? x) = plain _ _
  answered-other (slice_ranges? s e) =
      seen_other _ _ _
      (queue-other _ r _ (asks_other _ 3 _ (λ z. omega arith) (asks_other _ 3 0 (λ z. omega arith) (λ z. omega arith))))
  answered-other (binary_search? x) = plain _ _
  answered-other (partition_point? t) = plain _ _
  answered-other (write_image? n) =
      look_other _ _ (queue-other _ r _ (asks_other _ 4 0 (λ z. omega arith) (λ z. omega arith)))

  -- and at two
  answered_both_other : (b' : List ℕ) (r' : Rec) (k : AskBoth) → refused_by (answered_both b r b' r' k) ≢ 6
  unfolding answered_both look_at_both
  answered_both_other b' r' eq? = seen_other _ _ _ (queue-other _ r _ (queue-other _ r' 0 (λ z. omega arith)))
  answered_both_other b' r' cmp? = seen_other _ _ _ (queue-other _ r _ (queue-other _ r' 0 (λ z. omega arith)))

looks_first_other : (p q : Queue) {k : Call} → Looks k → (first_step p q k).refused ≢ 6
unfolding first_step takes taken_step queue_step pair_step look_step still_step
looks_first_other p q (at_one a) =
    by_shut p.state (λ t. (taken_step p q t).refused ≢ 6) (λ e. omega arith) (λ r. answered-other p.slots r a)
looks_first_other p q (at_both a) =
    by_shut p.state (λ t. (taken_step p q t).refused ≢ 6) (λ e. omega arith)
    (λ r. by_shut q.state (λ t. (taken_step p q t).refused ≢ 6) (λ e. omega arith)
    (λ r'. answered_both_other p.slots r q.slots r' a))

-- A CALL THAT ONLY LOOKS is never refused with 6, at whatever queues.
pub looks_go_on : (s : Pair) (t : Turn) → Looks t.call → (step s t).refused ≢ 6
unfolding step
looks_go_on s t l = let p = facing t.side s in looks_first_other p.a p.b l

-- ---- the calls that reach a marked queue

-- a portion is refused by what it asks
portion-number : (b : List ℕ) (r : Rec) (b' : List ℕ) (r' : Rec) (n : ℕ)
    → (do_portion b r b' r' n).answer.refused ≡ on_portion (length b) r (length b') r' n
unfolding do_portion ported crossing
portion-number b r b' r' n =
    let asks = on_portion (length b) r (length b') r' n in
    by-refusal asks (λ (o : PairOutcome). o.answer.refused ≡ asks) (λ z. sym z) refl

-- which is not the new queue's mark
portion_unasked : (b : List ℕ) (r : Rec) (b' : List ℕ) (m : Bool) (r' : Rec) (n : ℕ)
    → (do_portion b r b' (with_mark m r') n).answer.refused ≡ (do_portion b r b' r' n).answer.refused
unfolding on_portion on_queue good_rec with_mark
portion_unasked b r b' m r' n = portion-number b r b' (with_mark m r') n ∙ sym (portion-number b r b' r' n)

module _ (b : List ℕ) (m : Bool) (r : Rec) where
  -- a call on the other queue, whose slots are b₀, into this one
  into : (k : PairCall)
      → ((b₀ : List ℕ) (r₀ : Rec)
      → (pair_step (queue_of b₀ (shut r₀)) (queue_of b (shut (with_mark m r))) r₀ (with_mark m r) k).refused
      ≡ (pair_step (queue_of b₀ (shut r₀)) (queue_of b (shut r)) r₀ r k).refused)
      → (b₀ : List ℕ) (h₀ : State)
      → (first_step (queue_of b₀ h₀) (queue_of b (shut (with_mark m r))) (of_both k)).refused
      ≡ (first_step (queue_of b₀ h₀) (queue_of b (shut r)) (of_both k)).refused
  unfolding first_step takes if_shut taken_step still_step
  into k f b₀ (shut r₀) = f b₀ r₀
  into k f b₀ (draining d) = refl

  porting_into : (n : ℕ) (b₀ : List ℕ) (h₀ : State)
      → (first_step (queue_of b₀ h₀) (queue_of b (shut (with_mark m r))) (of_both (porting n))).refused
      ≡ (first_step (queue_of b₀ h₀) (queue_of b (shut r)) (of_both (porting n))).refused
  unfolding pair_step both_step
  porting_into n = into (porting n) (λ b₀ r₀. portion_unasked b₀ r₀ b m r n)

-- A CALL THAT REACHES A MARKED QUEUE is refused as if the mark did not stand: a portion into it asks for no mark of
-- its, and a bare target has none.
pub reaching_unasked : (d : Side) (b : List ℕ) (m : Bool) (r : Rec) (q : Queue) {t : Turn} → Reaches d t
    → (step (facing d (pair_of (queue_of b (shut (with_mark m r))) q)) t).refused
    ≡ (step (facing d (pair_of (queue_of b (shut r)) q)) t).refused
unfolding step facing across first_step takes if_shut taken_step queue_step pair_step one_step both_step do_on_queue do_make
reaching_unasked side_a b m r q (portion_into n) = porting_into b m r n q.slots q.state
reaching_unasked side_b b m r q (portion_into n) = porting_into b m r n q.slots q.state
reaching_unasked side_a b m r q by_fresh = refl
reaching_unasked side_b b m r q by_fresh = refl
reaching_unasked side_a b m r q (by_reading s) = refl
reaching_unasked side_b b m r q (by_reading s) = refl
reaching_unasked side_a b m r q (by_split at) = into b m r (splitting at) (λ b₀ r₀. refl) q.slots q.state
reaching_unasked side_b b m r q (by_split at) = into b m r (splitting at) (λ b₀ r₀. refl) q.slots q.state
reaching_unasked side_a b m r q by_move = into b m r moving (λ b₀ r₀. refl) q.slots q.state
reaching_unasked side_b b m r q by_move = into b m r moving (λ b₀ r₀. refl) q.slots q.state
