-- The runs lie in the slots, and the answer of the call for the two ranges gives them. Assumes nothing.
use mathlib.Core.List.{List}
use mathlib.Core.Path.{◌≡◌, ◌∙◌, sym, subst}
use Prim.Native.Nat.{ℕ, ◌≤◌, ◌-◌}
use native.Mathlib.Omega.{arith}
use lib.ListN.{length}
use Rattle.std.specs.Prelude.{Result, Ok, Err}
use Rattle.std.specs.Result.{result_unwrap_or}
use Rattle.queue.specs.Answers.{number_of}
use Rattle.queue.specs.Looks.{look_of, runs_of}
use Rattle.rules.proofs.Places.{place_good}
use Rattle.rules.proofs.Refusals.{queue_ok, range_ok}
use Rattle.rules.proofs.Choices.{by-refusal, unless-go}
use Rattle.rules.specs.Places.{place}
use Rattle.rules.specs.Records.{Rec}
use Rattle.rules.specs.Runs.{runs_or, look_runs}
use Rattle.runs.proofs.Asks.{seen_is, refused_is}
use Rattle.runs.proofs.Cases.{none_of, by_runs}
use Rattle.runs.specs.Parts.{BothWithin}
use Rattle.rules.specs.Refusals.{on_range}
use Rattle.queue.specs.declared.answers.Runs.{Runs}
use Rattle.queue.specs.declared.refusals.Refusal.{Refusal}

empty_within : (c : ℕ) → BothWithin c none_of
empty_within c = ((omega arith, omega arith), (omega arith, omega arith))

-- no runs, as the code has them
abbrev pub no_runs : Runs
no_runs = record { front = record { start = 0; end = 0 }; back = record { start = 0; end = 0 } }

-- whatever is asked
pub runs_within : (b : List ℕ) (r : Rec) (s e : ℕ) → BothWithin (length b) (runs_or b r s e)
unfolding runs_or on_range
runs_within b r s e =
    by-refusal (on_range (length b) r s e) (BothWithin (length b))
    (λ z.
    let q = queue_ok (length b) r _ z in
    let k = range_ok r.len s e 0 q.1 in
    let w : place (length b) r.head s ≤ length b - 1 =
    place_good (length b) r.head q.0.placed s (omega (arith, q.0.fits)) in
    by_runs (length b) r.head s e (BothWithin (length b)) (λ same. empty_within _)
    (λ differ fits. ((omega arith, omega arith), (omega arith, omega arith)))
    (λ differ over. ((omega arith, omega arith), (omega arith, omega arith))))
    (empty_within _)

-- what the call for the ranges answered, or no runs where it refused
module _ (b : List ℕ) (r : Rec) (s e : ℕ) where
  pub runs_taken : (a : Result Runs Refusal) → look_of runs_of a ≡ look_runs b r s e
      → runs_of (result_unwrap_or a no_runs) ≡ runs_or b r s e
  unfolding look_runs runs_or
  runs_taken (Ok t) q = let k = seen_is _ _ _ q in k.1 ∙ sym (unless-go _ _ _ k.0)
  runs_taken (Err x) q = refused_is _ (number_of x) _ _ q

  pub taken_within : (a : Result Runs Refusal) → look_of runs_of a ≡ look_runs b r s e
      → BothWithin (length b) (runs_of (result_unwrap_or a no_runs))
  taken_within a q = subst (BothWithin (length b)) (sym (runs_taken a q)) (runs_within b r s e)
