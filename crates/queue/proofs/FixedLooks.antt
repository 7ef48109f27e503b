-- What the calls that only look answer, of which no element is told: each is fixed by what is said of it (see `Fixed`).
-- Assumes nothing.
use mathlib.Core.Path.{◌≡◌, refl, ap}
use Prim.Native.Nat.{ℕ}
use Rattle.std.specs.Prelude.{Result, Ok, Err}
use Rattle.std.specs.declared.cmp.Ordering.{Ordering}
use Rattle.std.specs.declared.cmp.Ordering.TheVariants.{Less, Equal, Greater}
use Rattle.rules.specs.Looks.{Look, sees, refuses, Order, less, alike, greater}
use Rattle.rules.specs.Runs as rules
use Rattle.rules.specs.Search.{Spot, found_at, place_at}
use Rattle.queue.proofs.Fixed.{fixed, named, named_back, span_from}
use Rattle.queue.specs.Looks.{look_of, runs_of, order_of, spot_of}
use Rattle.queue.specs.declared.refusals.Refusal.{Refusal}
use Rattle.queue.specs.declared.answers.Runs.{Runs}

-- ---- a look, where what it saw is fixed by what is said of that: f says it, and back leads back

module _ {A B : Type 0} (f : A → B) (back : B → A) (leads : (a : A) → back (f a) ≡ a) where
  abbrev pub look_from : Look B → Result A Refusal
  look_from (sees b) = Ok (back b)
  look_from (refuses n) = Err (named n)

  look_back : (a : Result A Refusal) → look_from (look_of f a) ≡ a
  look_back (Ok a) = ap Ok (leads a)
  look_back (Err x) = ap Err (named_back x)

  pub one_look : (a b : Result A Refusal) → look_of f a ≡ look_of f b → a ≡ b
  one_look = fixed (look_of f) look_from look_back

-- a truth, a position, a count
pub one_seen : {A : Type 0} (a b : Result A Refusal) → look_of (λ (x : A). x) a ≡ look_of (λ x. x) b → a ≡ b
one_seen = one_look (λ x. x) (λ x. x) (λ x. refl)

-- ---- what is looked at

abbrev pub runs_from : rules.TwoRuns → Runs
runs_from t = record { front = span_from t.front; back = span_from t.back }

pub one_runs : (a b : Result Runs Refusal) → look_of runs_of a ≡ look_of runs_of b → a ≡ b
one_runs = one_look runs_of runs_from (λ r. refl)

abbrev pub order_from : Order → Ordering
order_from less = Less
order_from alike = Equal
order_from greater = Greater

pub order_back : (o : Ordering) → order_from (order_of o) ≡ o
order_back Less = refl
order_back Equal = refl
order_back Greater = refl

pub one_order : (a b : Result Ordering Refusal) → look_of order_of a ≡ look_of order_of b → a ≡ b
one_order = one_look order_of order_from order_back

abbrev pub spot_from : Spot → Result ℕ ℕ
spot_from (found_at p) = Ok p
spot_from (place_at p) = Err p

pub spot_back : (s : Result ℕ ℕ) → spot_from (spot_of s) ≡ s
spot_back (Ok p) = refl
spot_back (Err p) = refl

pub one_spot : (a b : Result (Result ℕ ℕ) Refusal) → look_of spot_of a ≡ look_of spot_of b → a ≡ b
one_spot = one_look spot_of spot_from spot_back
