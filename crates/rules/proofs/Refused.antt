-- A refused call leaves everything as it was, whether the records that it was given are good or bad. Assumes nothing.
use mathlib.Core.List.{List, []}
use mathlib.Core.Logic.{◌≢◌}
use mathlib.Core.Option.{Option, none, some}
use mathlib.Core.Path.{◌≡◌, refl, ap}
use Prim.Native.Nat.{ℕ, zero, suc}
use lib.ListN.{length}
use Rattle.rules.proofs.Taken.{by_taking}
use Rattle.rules.specs.Asks.{Sight}
use Rattle.rules.specs.Calls.{rule}
use Rattle.rules.specs.Choices.{unless}
use Rattle.rules.specs.Drains.{Drain, opened, on_drain, as_opened, close_drain}
use Rattle.rules.specs.Images.{laid_out, how_many, elements_in}
use Rattle.rules.specs.Looks.{Look, refuses, sees, refused_by, seen_by}
use Rattle.rules.specs.Makes.{none_made, made_with, fresh, read_image}
use Rattle.rules.specs.Outcome.{State, Outcome, shut, draining, unchanged, refusal, accepted, do_rule, do_open, hands_over, next_of, next_back_of, do_next, do_next_back, do_close}
use Rattle.rules.specs.Pairs.{PairOutcome, on_appending, appended, crossing, do_append, on_splitting, splitted, do_split}
use Rattle.rules.specs.Records.{Rec}
use Rattle.rules.specs.Regions.{on_moving, moved_whole, do_move, on_portion, ported, do_portion}
use Rattle.rules.specs.Refusals.{on_slots, on_layout, room, on_taking}
use Rattle.rules.specs.Sequences.{Queue, Pair, CallStep, Call, still_step, look_step, one_step, both_step, queue_of, pair_of, QueueCall, changing, asking, QueueChange, op, freshly, reading, opening, DrainCall, next, next_back, close, PairCall, appending, splitting, moving, porting, comparing, made_or, do_make, do_on_queue, do_on_drain, queue_step, pair_step, taken_step, first_step, Side, side_a, side_b, Turn, facing, step}

-- ---- one queue: refused, its outcome is that of a call that does nothing

module _ (b : List ℕ) (h : State) where
  -- a call that is refused with n, or has an outcome without a refusal
  unchanged_if : (n : ℕ) (o : Outcome) → o.answer.refused ≡ 0
      → let u = unless n o (unchanged b h n) in u.answer.refused ≢ 0 → u ≡ unchanged b h u.answer.refused
  unfolding unless unchanged
  unchanged_if zero o z ne = absurd (ne z)
  unchanged_if (suc n) o z ne = refl

  -- and one that makes a record
  unmade_if : (n : ℕ) (l : List ℕ)
      → let u = do_make b h (unless n (made_with b l) (none_made b n)) in
      u.answer.refused ≢ 0 → u ≡ unchanged b h u.answer.refused
  unfolding unless unchanged do_make made_with none_made made_or
  unmade_if zero l ne = absurd (ne refl)
  unmade_if (suc n) l ne = refl

-- each change of a queue
change_still : (b : List ℕ) (r : Rec) (k : QueueChange)
    → let u = do_on_queue b r k in u.answer.refused ≢ 0 → u ≡ unchanged b (shut r) u.answer.refused
unfolding do_on_queue do_rule accepted do_open fresh read_image unchanged
change_still b r (op o) = unchanged_if b (shut r) (refusal (length b) r (rule o)) (accepted b r (rule o)) refl
change_still b r freshly = unmade_if b (shut r) (on_slots (length b) 0) []
change_still b r (reading s) =
    unmade_if b (shut r) (on_slots (length b) (on_layout (laid_out s) (room (length b) (how_many s)))) (elements_in s)
change_still b r (opening s e) =
    unchanged_if b (shut r) (on_taking (length b) r s e) (unchanged b (draining (opened r s e)) 0) refl

-- each call of an open drain
next-taken : (b : List ℕ) (d : Drain) (n : ℕ) → (next_of b d n).answer.refused ≡ 0
unfolding next_of unchanged hands_over
next-taken b d zero = refl
next-taken b d (suc n) = refl

next-back-taken : (b : List ℕ) (d : Drain) (n : ℕ) → (next_back_of b d n).answer.refused ≡ 0
unfolding next_back_of unchanged hands_over
next-back-taken b d zero = refl
next-back-taken b d (suc n) = refl

drain_still : (b : List ℕ) (d : Drain) (k : DrainCall)
    → let u = do_on_drain b d k in u.answer.refused ≢ 0 → u ≡ unchanged b (draining d) u.answer.refused
unfolding do_on_drain do_next do_next_back do_close accepted
drain_still b d next = unchanged_if b (draining d) (on_drain (length b) d) (next_of b d d.remaining)
    (next-taken b d d.remaining)
drain_still b d next_back = unchanged_if b (draining d) (on_drain (length b) d) (next_back_of b d d.remaining)
    (next-back-taken b d d.remaining)
drain_still b d close = unchanged_if b (draining d) (on_drain (length b) d)
    (accepted b (as_opened d) (close_drain d)) refl

-- ---- two queues: refused, the step is one that leaves both, and sees nothing

abbrev pub IsStill : Queue → Queue → CallStep → Type 0
IsStill p q o = o.refused ≢ 0 → o ≡ still_step p q o.refused none

-- a look
look_still : (p q : Queue) (l : Look Sight) → IsStill p q (look_step p q l)
unfolding look_step still_step refused_by seen_by
look_still p q (refuses n) ne = refl
look_still p q (sees a) ne = absurd (ne refl)

-- a call that leaves the second
one_still : (b : List ℕ) (h : State) (q : Queue) (o : Outcome)
    → (o.answer.refused ≢ 0 → o ≡ unchanged b h o.answer.refused) → IsStill (queue_of b h) q (one_step q o)
unfolding one_step still_step unchanged
one_still b h q o f ne = ap (one_step q) (f ne)

queue_still : (b : List ℕ) (r : Rec) (q : Queue) (k : QueueCall)
    → let p = queue_of b (shut r) in IsStill p q (queue_step p q r k)
unfolding queue_step
queue_still b r q (changing k) = one_still b (shut r) q _ (change_still b r k)
queue_still b r q (asking a) = look_still (queue_of b (shut r)) q _

-- a call on both
module _ (b : List ℕ) (r : Rec) (b' : List ℕ) (r' : Rec) where
  -- one that is refused with n, or has an outcome without a refusal
  both_if : (n : ℕ) (m : PairOutcome) (o : Option Rec) (gone : List ℕ) → m.answer.refused ≡ 0
      → made_or (shut r') o ≡ shut r'
      → IsStill (queue_of b (shut r)) (queue_of b' (shut r'))
      (both_step (shut r') (unless n m (record {
        answer = record { refused = n; moved = 0; rec = r; other = o };
        slots = b;
        slots' = b';
      })) gone)
  unfolding unless both_step still_step
  both_if zero m o gone z same ne = absurd (ne z)
  both_if (suc n) m o gone z same ne = rw same

  pair_still : (k : PairCall)
      → let p = queue_of b (shut r) in let q = queue_of b' (shut r') in IsStill p q (pair_step p q r r' k)
  unfolding pair_step do_append do_split do_move do_portion appended splitted moved_whole ported crossing made_or
  pair_still appending = both_if (on_appending (length b) r (length b') r') (appended b r b' r') (some r') [] refl refl
  pair_still (splitting at) = both_if (on_splitting (length b) r (length b') at) (splitted b r b' at) none _ refl refl
  pair_still moving = both_if (on_moving (length b) r (length b')) (moved_whole b r b') none _ refl refl
  pair_still (porting n) =
      both_if (on_portion (length b) r (length b') r' n) (ported b r b' r' n) (some r') [] refl refl
  pair_still (comparing a) = look_still _ _ _

-- each call on the first queue, of its drain, and on both
pub first_still : (p q : Queue) (k : Call) → IsStill p q (first_step p q k)
unfolding first_step taken_step still_step
first_still p q k =
    by_taking p.state q.state k
    (λ h h' t. let p' = queue_of p.slots h in let q' = queue_of q.slots h' in IsStill p' q' (taken_step p' q' t))
    (λ ne. absurd (ne refl))
    (λ r c. queue_still p.slots r q c)
    (λ d c. one_still p.slots (draining d) q _ (drain_still p.slots d c))
    (λ r r' c. pair_still p.slots r q.slots r' c)

-- the same step, told of the queues in the other order
abbrev pub turned : CallStep → CallStep
turned o = record {
  queues = pair_of o.queues.b o.queues.a;
  refused = o.refused;
  moved = o.moved;
  handed = o.handed;
  sight = o.sight;
  entered = o.entered;
  left = o.left;
}

-- and on either
pub step_still : (s : Pair) (t : Turn) → IsStill s.a s.b (step s t)
unfolding step facing still_step
step_still s t = by_side t.side t.call
  where
    by_side : (d : Side) (k : Call) → IsStill s.a s.b (step s (record { side = d; call = k }))
    by_side side_a k = first_still s.a s.b k
    by_side side_b k = λ ne. ap turned (first_still s.b s.a k ne)
