-- The call for the two ranges: one law for each return. Assumes nothing.
use mathlib.Core.List.{List}
use mathlib.Core.Path.{◌≡◌, sym, ◌∙◌, ap}
use Prim.Native.Nat.{ℕ}
use lib.ListN.{length}
use Rattle.std.specs.Prelude.{Result, IsErrAnd}
use Rattle.queue.specs.Answers.{number_of}
use Rattle.queue.specs.Looks.{look_of, runs_of}
use Rattle.rules.proofs.Refusals.{queue_go}
use Rattle.rules.specs.Looks.{sees}
use Rattle.rules.specs.Records.{Rec}
use Rattle.rules.specs.Refusals.{on_queue, in_range, on_range}
use Rattle.rules.specs.Runs.{look_runs, TwoRuns, runs}
use Rattle.runs.proofs.Asks.{asks_first, asks_refused, asks_seen}
use Rattle.queue.specs.declared.answers.Runs.{Runs}
use Rattle.queue.specs.declared.refusals.Refusal.{Refusal}

module _ (b : List ℕ) (r : Rec) (s e : ℕ) where
  module _ (a : Result Runs Refusal) (x : Refusal) (is : IsErrAnd a (λ y. y ≡ x)) where
    pub range_first : number_of x ≡ on_queue (length b) r 0 → look_of runs_of a ≡ look_runs b r s e
    unfolding look_runs on_range
    range_first z = asks_refused _ _ runs_of a x is (asks_first (length b) r _ x z)

    pub range_refused : on_queue (length b) r 0 ≡ 0 → number_of x ≡ in_range r.len s e 0
        → look_of runs_of a ≡ look_runs b r s e
    unfolding look_runs on_range
    range_refused first z = asks_refused _ _ runs_of a x is (z ∙ sym (queue_go (length b) r _ first))

  pub range_seen : on_queue (length b) r 0 ≡ 0 → in_range r.len s e 0 ≡ 0 → (t : TwoRuns)
      → t ≡ runs (length b) r.head s e → sees t ≡ look_runs b r s e
  unfolding look_runs on_range
  range_seen first ranged t is = ap sees is ∙ asks_seen _ _ (queue_go (length b) r _ first ∙ ranged)
