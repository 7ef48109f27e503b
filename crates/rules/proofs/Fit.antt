-- What every queue that a sequence of calls leaves is, and what stands in it. Assumes nothing.
use mathlib.Core.Bool.{Bool}
use mathlib.Core.List.{List}
use mathlib.Core.Path.{◌≡◌, refl}
use Prim.Native.Nat.{ℕ, ◌≤◌}
use native.Mathlib.Omega.{arith}
use lib.ListN.{length}
use Rattle.rules.proofs.Drains.{GoodDrain, drain_true, closed_placed, kept_length}
use Rattle.rules.proofs.Held.{length-held, stepped_good, laid}
use Rattle.rules.proofs.Lawful.{Lawful}
use Rattle.rules.proofs.Refusals.{Good, record_true, change_ok}
use Rattle.rules.specs.Drains.{Drain, during, as_opened, close_drain}
use Rattle.rules.specs.Outcome.{State, shut, draining, refusal, rec_after}
use Rattle.rules.specs.Records.{Rec, held, stepped, with_mark}
use Rattle.rules.specs.Refusals.{most_slots, good_rec}
use Rattle.rules.specs.Rule.{Rule, after}
use Rattle.rules.specs.Sequences.{stands}
use Rattle.rules.specs.Slots.{lay}
use Rattle.rules.specs.Choices.{whether}

-- its record is good; a drain is open only where the slots are not too many
pub data Fit (b : List ℕ) : State → Type 0 where
  fit_shut : {r : Rec} → Good (length b) r → Fit b (shut r)
  fit_draining : {d : Drain} → length b ≤ most_slots → GoodDrain (length b) d → Fit b (draining d)

-- so the record that is taken of it is good
pub shut_good : {b : List ℕ} {r : Rec} → Fit b (shut r) → Good (length b) r
shut_good (fit_shut g) = g

pub draining_good : {b : List ℕ} {d : Drain} → Fit b (draining d) → (length b ≤ most_slots) × GoodDrain (length b) d
draining_good (fit_draining few g) = (few, g)

-- under a good record the list of the queue stands, and while a drain is open what it leaves standing
pub stands-shut : (b : List ℕ) (r : Rec) → Good (length b) r → stands b (shut r) ≡ held b r
unfolding stands whether
stands-shut b r g = rw (record_true (length b) r g)

pub stands-draining : (b : List ℕ) (d : Drain) → GoodDrain (length b) d
    → stands b (draining d) ≡ during (held b (as_opened d)) d
unfolding stands whether
stands-draining b d g = rw (drain_true (length b) d g)

-- the mark does not show in what stands
pub stands-mark : (b : List ℕ) (m : Bool) (r : Rec) → stands b (shut (with_mark m r)) ≡ stands b (shut r)
unfolding stands good_rec held with_mark
stands-mark b m r = refl

-- ---- what an accepted call leaves: its record is good, and the list that the rule gives is as long as that says

pub record Leaves (b : List ℕ) (r : Rec) (R : Rule) : Type 0 where
  pub good : Good (length b) (rec_after b r R)
  pub long : length (after R (held b r)) ≡ (rec_after b r R).len

-- so that is the list that the queue then holds
pub left-held : (b : List ℕ) (r : Rec) (R : Rule) → Leaves b r R
    → held (lay b (rec_after b r R).head (after R (held b r))) (rec_after b r R) ≡ after R (held b r)
left-held b r R L = laid b (rec_after b r R) (after R (held b r)) L.good L.long

-- what a lawful rule leaves of a good record, where the call itself asks nothing
pub rule_leaves : (b : List ℕ) (r : Rec) (R : Rule) → Lawful R → Good (length b) r → R.own (length b) r.len ≡ 0
    → Leaves b r R
unfolding rec_after stepped
rule_leaves b r R L g e =
    let n = length-held b r in
    let long : length (held b r) ≤ length b = rw n g.fits in
    let own : R.own (length b) (length (held b r)) ≡ 0 = rw n e in
    record {
      good = stepped_good (length b) r _ _ g
          (rw n at (L.good (length b) r.head (held b r) g.placed long own))
          (rw n at (L.fits (length b) (held b r) long own));
      long = rw n at (L.long (length b) (held b r) own);
    }

-- a call by a lawful rule
pub op_leaves : (b : List ℕ) (r : Rec) (R : Rule) → Lawful R → refusal (length b) r R ≡ 0 → Leaves b r R
unfolding refusal
op_leaves b r R L e = let q = change_ok (length b) r _ e in rule_leaves b r R L q.0 q.1

-- the closing of a drain
pub close_leaves : (b : List ℕ) (d : Drain) → GoodDrain (length b) d → Leaves b (as_opened d) (close_drain d)
unfolding rec_after stepped close_drain
close_leaves b d g = record {
  good = stepped_good (length b) (as_opened d) _ _ g.whole (closed_placed (length b) d g)
      (omega (arith, g.whole.fits));
  long = kept_length (held b (as_opened d)) d (length-held b (as_opened d));
}
