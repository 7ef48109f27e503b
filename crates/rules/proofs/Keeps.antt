-- What each call that can change one queue keeps, from any that a sequence leaves: as many slots, a fit queue, and the
-- balance. Assumes nothing.
use mathlib.Core.List.{List, [], ◌∷◌}
use mathlib.Core.Path.{◌≡◌, refl, ◌∙◌}
use Prim.Native.Nat.{ℕ, ◌+◌, ◌≤◌, suc, zero}
use native.Mathlib.Omega.{arith}
use lib.ListN.{length}
use Rattle.rules.proofs.Calls.{lawful}
use Rattle.rules.proofs.Count.{tally_nil}
use Rattle.rules.proofs.Drains.{opened_good, opening_few, open_same, open_balance, GoodDrain, front_good, front_same, next_balance, idx_in, back_good, back-same, next-back_balance, last_in, close_balance}
use Rattle.rules.proofs.Fit.{Fit, fit_shut, stands-shut, Leaves, left-held, op_leaves, fit_draining, stands-draining, close_leaves}
use Rattle.rules.proofs.Held.{new_good, laid, length-held}
use Rattle.rules.proofs.Images.{length-elements, reading_fits}
use Rattle.rules.proofs.Lawful.{Lawful}
use Rattle.rules.proofs.Refusals.{Good, change_ok}
use Rattle.rules.proofs.Slots.{length-lay}
use Rattle.rules.proofs.Choices.{by-refusal}
use Rattle.rules.specs.Calls.{rule}
use Rattle.rules.specs.Count.{tally, as_list}
use Rattle.rules.specs.Drains.{opened, Drain, as_opened, during, from_front, from_back, close_drain, on_drain}
use Rattle.rules.specs.Images.{laid_out, how_many, elements_in}
use Rattle.rules.specs.Makes.{made_with, none_made, fresh, read_image}
use Rattle.rules.specs.Outcome.{State, Outcome, unchanged, shut, accepted, rec_after, refusal, do_rule, draining, do_open, hands_over, next_of, next_back_of, do_next, do_next_back, do_close}
use Rattle.rules.specs.Records.{Rec, held, new_rec}
use Rattle.rules.specs.Refusals.{on_slots, on_layout, room, on_taking, most_slots}
use Rattle.rules.specs.Rule.{Rule, after}
use Rattle.rules.specs.Sequences.{stands, do_make, made_or, QueueChange, op, freshly, reading, opening, do_on_queue, DrainCall, do_on_drain, next, next_back, close}
use Rattle.rules.specs.Slots.{lay}
use Rattle.rules.specs.Choices.{unless}

-- a call on one queue
pub record Keeps (b : List ℕ) (h : State) (o : Outcome) : Type 0 where
  pub slots : length o.slots ≡ length b
  pub fit : Fit o.slots o.answer.state
  pub balance : (x : ℕ) → tally x (stands b h) + tally x o.entered
      ≡ tally x (stands o.slots o.answer.state) + tally x o.left

-- refused, or Nothing to do
keeps_same : (b : List ℕ) (h : State) (n : ℕ) → Fit b h → Keeps b h (unchanged b h n)
unfolding unchanged
keeps_same b h n f = record { slots = refl; fit = f; balance = λ x. refl }

-- the list l is laid from the head of a good record
laid_fit : (b : List ℕ) (r : Rec) (l : List ℕ) → Good (length b) r → Fit (lay b r.head l) (shut r)
laid_fit b r l g = fit_shut {r = r} (rw length-lay g)

laid-stands : (b : List ℕ) (r : Rec) (l : List ℕ) → Good (length b) r → held (lay b r.head l) r ≡ l
    → stands (lay b r.head l) (shut r) ≡ l
laid-stands b r l g e = stands-shut (lay b r.head l) r (rw length-lay g) ∙ e

-- ---- one queue

-- what an accepted call leaves stands, and is a queue
pub left_fit : (b : List ℕ) (r : Rec) (R : Rule) → Leaves b r R → Fit (accepted b r R).slots (shut (rec_after b r R))
unfolding accepted
left_fit b r R L = laid_fit b (rec_after b r R) _ L.good

pub left-stands : (b : List ℕ) (r : Rec) (R : Rule) → Leaves b r R
    → stands (accepted b r R).slots (shut (rec_after b r R)) ≡ after R (held b r)
unfolding accepted
left-stands b r R L = laid-stands b (rec_after b r R) _ L.good (left-held b r R L)

pub left-slots : (b : List ℕ) (r : Rec) (R : Rule) → length (accepted b r R).slots ≡ length b
unfolding accepted
left-slots b r R = length-lay b _ _

-- and so does a list that is laid under a new record
pub made_fit : (b l : List ℕ) → length l ≤ length b → Fit (lay b 0 l) (shut (new_rec (length l)))
unfolding new_rec
made_fit b l le = laid_fit b (new_rec (length l)) l (new_good (length b) (length l) le)

pub made-stands : (b l : List ℕ) → length l ≤ length b → stands (lay b 0 l) (shut (new_rec (length l))) ≡ l
unfolding new_rec
made-stands b l le = let n = new_good (length b) (length l) le in laid-stands b (new_rec (length l)) l n
    (laid b (new_rec (length l)) l n refl)

-- an accepted call, on the queue with the record r
accepted_keeps : (b : List ℕ) (h : State) (r : Rec) (R : Rule) → Leaves b r R
    → ((x : ℕ) → tally x (stands b h) + tally x (R.entered (held b r))
    ≡ tally x (after R (held b r)) + tally x (R.left (held b r))) → Keeps b h (accepted b r R)
unfolding accepted
accepted_keeps b h r R L e = record {
  slots = left-slots b r R;
  fit = left_fit b r R L;
  balance = λ x. rw (left-stands b r R L) (e x);
}

module _ (b : List ℕ) (r : Rec) (g : Good (length b) r) where
  op-accepted : (R : Rule) → Lawful R → refusal (length b) r R ≡ 0 → Keeps b (shut r) (accepted b r R)
  unfolding refusal
  op-accepted R L e =
      accepted_keeps b (shut r) r R (op_leaves b r R L e)
      (λ x. rw (stands-shut b r g)
      (L.balance x (length b) (held b r) (rw length-held (change_ok (length b) r _ e).1)))

  keeps_op : (R : Rule) → Lawful R → Keeps b (shut r) (do_rule b r R)
  unfolding do_rule
  keeps_op R L = by-refusal (refusal (length b) r R) (Keeps b (shut r)) (op-accepted R L)
      (keeps_same b (shut r) _ (fit_shut g))

  -- a call that makes a record over the list l: what stood has left
  made_keeps : (l : List ℕ) → length l ≤ length b → Keeps b (shut r) (do_make b (shut r) (made_with b l))
  unfolding do_make made_with made_or unless
  made_keeps l le = record {
    slots = length-lay b 0 l;
    fit = made_fit b l le;
    balance = λ x. rw (made-stands b l le) (omega arith);
  }

  -- and one that makes none
  unmade_keeps : (n : ℕ) → Keeps b (shut r) (do_make b (shut r) (none_made b (suc n)))
  unfolding do_make none_made made_or unless
  unmade_keeps n = record { slots = refl; fit = fit_shut g; balance = λ x. refl }

  made_or_not : (n : ℕ) (l : List ℕ) → (n ≡ 0 → length l ≤ length b)
      → Keeps b (shut r) (do_make b (shut r) (unless n (made_with b l) (none_made b n)))
  unfolding unless
  made_or_not zero l le = made_keeps l (le refl)
  made_or_not (suc n) l le = unmade_keeps n

  keeps_fresh : Keeps b (shut r) (do_make b (shut r) (fresh b))
  unfolding fresh
  keeps_fresh = made_or_not (on_slots (length b) 0) [] (λ e. omega arith)

  keeps_reading : (s : List ℕ) → Keeps b (shut r) (do_make b (shut r) (read_image b s))
  unfolding read_image
  keeps_reading s = made_or_not (on_slots (length b) (on_layout (laid_out s) (room (length b) (how_many s)))) (elements_in s)
      (λ e. rw (length-elements s) (reading_fits (length b) s e))

  open_keeps : (s e : ℕ) → on_taking (length b) r s e ≡ 0 → Keeps b (shut r) (unchanged b (draining (opened r s e)) 0)
  unfolding unchanged
  open_keeps s e z =
      let d = opened_good (length b) r s e z in
      record {
        slots = refl;
        fit = fit_draining (opening_few (length b) r s e z) d;
        balance = λ x. rw (
          stands-shut b r g,
          stands-draining b (opened r s e) d,
          open_same (length b) r s e z,
          open_balance x r s e (held b r),
        );
      }

  keeps_open : (s e : ℕ) → Keeps b (shut r) (do_open b r s e)
  unfolding do_open
  keeps_open s e = by-refusal (on_taking (length b) r s e) (Keeps b (shut r)) (open_keeps s e)
      (keeps_same b (shut r) _ (fit_shut g))

  -- each change of a queue
  pub keeps_change : (k : QueueChange) → Keeps b (shut r) (do_on_queue b r k)
  unfolding do_on_queue
  keeps_change (op o) = keeps_op (rule o) (lawful o)
  keeps_change freshly = keeps_fresh
  keeps_change (reading s) = keeps_reading s
  keeps_change (opening s e) = keeps_open s e

module _ (b : List ℕ) (d : Drain) (few : length b ≤ most_slots) (g : GoodDrain (length b) d) where
  -- the drain, now d', has handed v over
  hand_keeps : (d' : Drain) (v : ℕ) → GoodDrain (length b) d' → as_opened d' ≡ as_opened d
      → ((x : ℕ) → tally x (during (held b (as_opened d)) d)
      ≡ tally x (during (held b (as_opened d)) d') + tally x (v ∷ [])) → Keeps b (draining d) (hands_over b d' v)
  unfolding hands_over as_list
  hand_keeps d' v g' w e =
      record {
        slots = refl;
        fit = fit_draining few g';
        balance = λ x. rw (stands-draining b d g, stands-draining b d' g', w) (omega (arith, e x, tally_nil x));
      }

  next_keeps : (n : ℕ) → d.remaining ≡ n → Keeps b (draining d) (next_of b d n)
  unfolding next_of
  next_keeps zero e = keeps_same b (draining d) 0 (fit_draining few g)
  next_keeps (suc n) e =
      hand_keeps (from_front d) _ (front_good (length b) n d g e) (front_same d)
      (λ x. next_balance x (held b (as_opened d)) d n e (rw length-held (idx_in (length b) d g n e)))

  next-back_keeps : (n : ℕ) → d.remaining ≡ n → Keeps b (draining d) (next_back_of b d n)
  unfolding next_back_of
  next-back_keeps zero e = keeps_same b (draining d) 0 (fit_draining few g)
  next-back_keeps (suc n) e =
      hand_keeps (from_back d) _ (back_good (length b) n d g e) (back-same d)
      (λ x. next-back_balance x (held b (as_opened d)) d n e (rw length-held (last_in (length b) d g n e)))

  closed_keeps : Keeps b (draining d) (accepted b (as_opened d) (close_drain d))
  unfolding close_drain
  closed_keeps =
      accepted_keeps b (draining d) (as_opened d) (close_drain d) (close_leaves b d g)
      (λ x. rw (stands-draining b d g) (omega (arith, close_balance x (held b (as_opened d)) d, tally_nil x)))

  -- refused, or as the drain's record says
  keeps_drain : (o : Outcome) → Keeps b (draining d) o
      → Keeps b (draining d) (unless (on_drain (length b) d) o (unchanged b (draining d) (on_drain (length b) d)))
  keeps_drain o k = by-refusal (on_drain (length b) d) (Keeps b (draining d)) (λ e. k)
      (keeps_same b (draining d) _ (fit_draining few g))

-- each call of an open drain
pub keeps_drained : (b : List ℕ) (d : Drain) → length b ≤ most_slots → GoodDrain (length b) d → (k : DrainCall)
    → Keeps b (draining d) (do_on_drain b d k)
unfolding do_on_drain do_next do_next_back do_close
keeps_drained b d few g next = keeps_drain b d few g _ (next_keeps b d few g d.remaining refl)
keeps_drained b d few g next_back = keeps_drain b d few g _ (next-back_keeps b d few g d.remaining refl)
keeps_drained b d few g close = keeps_drain b d few g _ (closed_keeps b d few g)
