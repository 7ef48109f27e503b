-- A look that asks more than the tests of slots and record: refused,
-- or what it sees. n: the number that it asks for. Assumes nothing.
use mathlib.Core.Path.{◌≡◌, sym, refl}
use Prim.Native.Nat.{ℕ, zero, suc}
use native.Mathlib.Omega.{arith}
use Rattle.std.specs.Prelude.{Result, IsErrAnd}
use Rattle.queue.proofs.Checks.{same_refusal}
use Rattle.queue.proofs.Numbers.{some_number}
use Rattle.queue.specs.Answers.{number_of}
use Rattle.queue.specs.Looks.{look_of}
use Rattle.rules.proofs.Refusals.{queue-stop}
use Rattle.rules.proofs.Choices.{unless-stop, unless-go}
use Rattle.rules.specs.Looks.{refuses, looked, sees}
use Rattle.rules.specs.Records.{Rec}
use Rattle.rules.specs.Refusals.{on_queue}
use Rattle.rules.specs.Choices.{unless}
use Rattle.queue.specs.declared.refusals.Refusal.{Refusal}

module _ {A : Type 0} (n : ℕ) (u : A) where
  -- at a `?`: the look answers the refusal x that a test gave
  pub asks_refused : {B : Type 0} (say : B → A) (a : Result B Refusal) (x : Refusal) → IsErrAnd a (λ y. y ≡ x)
      → number_of x ≡ n → look_of say a ≡ looked n u
  unfolding looked
  asks_refused say a x h e = rw (same_refusal a x h, ← e) (sym (unless-stop (number_of x) _ _ (some_number x)))

  pub asks_seen : n ≡ 0 → sees u ≡ looked n u
  unfolding looked
  asks_seen e = sym (unless-go n _ _ e)

-- refused by the tests of slots and record, whatever is asked after
pub asks_first : (c : ℕ) (r : Rec) (k : ℕ) (x : Refusal) → number_of x ≡ on_queue c r 0 → number_of x ≡ on_queue c r k
asks_first c r k x e = sym (queue-stop c r k (number_of x) (some_number x) (sym e))

-- ---- what an answer tells of the look

pub seen_is : {A : Type 0} (n : ℕ) (t u : A) → sees t ≡ looked n u → (n ≡ 0) × (t ≡ u)
unfolding looked unless
seen_is zero t u e = (refl, cc)
seen_is (suc n) t u e = let o : ◌≡◌ {A = ℕ} 0 1 = cc in absurd (omega arith)

pub refused_is : {A : Type 0} (n m : ℕ) (u z : A) → refuses m ≡ looked n u → z ≡ unless n u z
unfolding looked unless
refused_is zero m u z e = let o : ◌≡◌ {A = ℕ} 0 1 = cc in absurd (omega arith)
refused_is (suc n) m u z e = refl
