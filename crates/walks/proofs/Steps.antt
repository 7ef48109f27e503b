-- What the calls of a walk do: one law for each return. Assumes nothing.
use mathlib.Core.List.{List}
use mathlib.Core.Logic.{◌≢◌}
use mathlib.Core.Option.{some, none}
use mathlib.Core.Path.{◌≡◌, sym, ◌∙◌, ap, refl}
use Prim.Native.Nat.{ℕ, ◌≤◌, ◌-◌, ◌+◌}
use native.Mathlib.Omega.{arith}
use borrow.Author.Tests.{le-ltb, lt-ltb}
use lib.Dec.{leb, leb→le, ltb}
use lib.ListN.{length, get_or}
use Rattle.std.specs.Prelude.{Result, IsErrAnd}
use Rattle.elements.specs.Answers.{of_step}
use Rattle.queue.proofs.Checks.{same_refusal}
use Rattle.queue.proofs.Numbers.{some_number}
use Rattle.queue.specs.Answers.{number_of}
use Rattle.queue.specs.Looks.{look_of, walk_of}
use Rattle.rules.proofs.Refusals.{queue_ok, T_and}
use Rattle.rules.proofs.Choices.{unless-stop, passed}
use Rattle.rules.specs.Looks.{looked, sees}
use Rattle.rules.specs.Records.{Rec, held}
use Rattle.rules.specs.Refusals.{on_queue}
use Rattle.rules.specs.Choices.{unless, whether}
use Rattle.rules.specs.Walks.{begin_walk, whole_walk, Walk, WalkStep, on_walk, next_step, next_back_step, same_walk}
use Rattle.elements.specs.declared.answers.Step.{Step}
use Rattle.queue.specs.declared.records.Walk.{Walk as Walking}
use Rattle.queue.specs.declared.refusals.Refusal.{Refusal}

-- ---- the walk that is begun

module _ (b : List ℕ) (r : Rec) where
  pub not_begun : (a : Result Walking Refusal) (x : Refusal) → IsErrAnd a (λ y. y ≡ x)
      → number_of x ≡ on_queue (length b) r 0 → look_of walk_of a ≡ begin_walk b r
  unfolding begin_walk looked
  not_begun a x h e = rw (same_refusal a x h, ← e) (sym (unless-stop (number_of x) _ _ (some_number x)))

  pub begun : (w : Walk) → on_queue (length b) r 0 ≡ 0 → w ≡ whole_walk r → sees w ≡ begin_walk b r
  unfolding begin_walk looked unless
  begun w e whole = rw (e, whole)

-- ---- past the tests

pub record Walkable (b : List ℕ) (w : Walk) : Type 0 where
  pub first : on_queue (length b) w.rec 0 ≡ 0
  pub low-high : w.low ≤ w.high
  pub high-len : w.high ≤ w.rec.len

pub walkable : (b : List ℕ) (w : Walk) → on_walk (length b) w ≡ 0 → Walkable b w
unfolding on_walk
walkable b w z =
    let q = queue_ok (length b) w.rec _ z in
    let t = T_and (leb w.low w.high) (leb w.high w.rec.len) (passed _ 1 0 q.1).0 in
    record {
      first = ap (on_queue (length b) w.rec) (sym q.1) ∙ z;
      low-high = leb→le w.low w.high t.0;
      high-len = leb→le w.high w.rec.len t.1;
    }

-- ---- a step, at either end

-- the end that `next`, and `next_back`, steps
pub data End : Type 0 where
  front back : End

abbrev pub step_at : End → List ℕ → Walk → WalkStep
step_at front = next_step
step_at back = next_back_step

-- the position that it gives the element of
abbrev pub next_at : End → Walk → ℕ
next_at front w = w.low
next_at back w = w.high - 1

-- the walk after it
abbrev pub walk_after : End → Walk → Walk
walk_after front w = record { rec = w.rec; low = w.low + 1; high = w.high }
walk_after back w = record { rec = w.rec; low = w.low; high = w.high - 1 }

-- what it tells where there is something left
abbrev giving : End → List ℕ → Walk → WalkStep
giving e b w = record { refused = 0; walk = walk_after e w; gives = some (get_or (held b w.rec) (next_at e w) 0) }

pub step_is : (e : End) (b : List ℕ) (w : Walk)
    → step_at e b w ≡ unless (on_walk (length b) w) (whether (ltb w.low w.high) (giving e b w) (same_walk w 0))
    (same_walk w (on_walk (length b) w))
unfolding next_step next_back_step
step_is front b w = refl
step_is back b w = refl

-- refused by the tests of slots, record and ends
pub step-refused : (e : End) (b : List ℕ) (w : Walking) (a : Result Step Refusal) (x : Refusal)
    → IsErrAnd a (λ y. y ≡ x) → number_of x ≡ on_walk (length b) (walk_of w) → of_step w a ≡ step_at e b (walk_of w)
unfolding same_walk
step-refused e b w a x h z =
    rw (same_refusal a x h, step_is e b (walk_of w), ← z) (sym (unless-stop (number_of x) _ _ (some_number x)))

-- past them
module _ (e : End) (b : List ℕ) (w : Walk) (z : on_walk (length b) w ≡ 0) where
  pub nothing_left : w.low ≡ w.high → record { refused = 0; walk = w; gives = none } ≡ step_at e b w
  unfolding same_walk unless whether
  nothing_left same = sym (step_is e b w ∙ rw (z, le-ltb w.low w.high (omega arith)))

  pub one_given : (v : ℕ) → w.low ≢ w.high → v ≡ get_or (held b w.rec) (next_at e w) 0
      → record { refused = 0; walk = walk_after e w; gives = some v } ≡ step_at e b w
  unfolding unless whether
  one_given v apart at-v = let k = walkable b w z in sym
      (step_is e b w ∙ rw (z, lt-ltb w.low w.high (omega arith), at-v))
