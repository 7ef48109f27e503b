-- What a sequence of calls keeps, from any two fit queues. Assumes nothing.
use mathlib.Core.List.{List, [], ◌∷◌}
use mathlib.Core.Path.{◌≡◌, refl}
use Prim.Native.Nat.{ℕ, ◌+◌}
use native.Mathlib.Omega.{arith}
use lib.ListN.{length}
use Rattle.rules.proofs.Count.{tally_nil}
use Rattle.rules.proofs.Fit.{Fit, fit_shut, stands-shut}
use Rattle.rules.proofs.Held.{new_good, new_held}
use Rattle.rules.proofs.KeepsBoth.{keeps}
use Rattle.rules.specs.Count.{tally}
use Rattle.rules.specs.Outcome.{shut}
use Rattle.rules.specs.Records.{new_rec}
use Rattle.rules.specs.Sequences.{Pair, stands, Turn, run, times_entered, times_left, step}

pub record Kept (s e : Pair) (entered left : ℕ → ℕ) : Type 0 where
  pub fit_a : Fit e.a.slots e.a.state
  pub fit_b : Fit e.b.slots e.b.state
  pub balance : (x : ℕ) → tally x (stands s.a.slots s.a.state) + tally x (stands s.b.slots s.b.state)
      + entered x
      ≡ tally x (stands e.a.slots e.a.state) + tally x (stands e.b.slots e.b.state) + left x

pub run_keeps : (s : Pair) → Fit s.a.slots s.a.state → Fit s.b.slots s.b.state → (ts : List Turn)
    → Kept s (run s ts) (λ x. times_entered x s ts) (λ x. times_left x s ts)
unfolding run times_entered times_left
run_keeps s f f' [] = record { fit_a = f; fit_b = f'; balance = λ x. refl }
run_keeps s f f' (t ∷ ts) =
    let k = keeps s f f' t in
    let o = run_keeps (step s t).queues k.fit_a k.fit_b ts in
    record { fit_a = o.fit_a; fit_b = o.fit_b; balance = λ x. omega (arith, k.balance x, o.balance x) }

-- a fresh queue is fit, and nothing stands in it
pub start_fit : (b : List ℕ) → Fit b (shut (new_rec 0))
start_fit b = fit_shut (new_good (length b) 0 (omega arith))

pub start-stands : (x : ℕ) (b : List ℕ) → tally x (stands b (shut (new_rec 0))) ≡ 0
start-stands x b = rw (stands-shut b (new_rec 0) (new_good (length b) 0 (omega arith)), new_held) (tally_nil x)
