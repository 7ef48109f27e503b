-- The tests of slots, record and a walk's ends: one law for each return of `check_walk`. Assumes nothing.
use mathlib.Core.Path.{◌≡◌, sym, ◌∙◌}
use Prim.Native.Nat.{ℕ, ◌<◌, ◌≤◌}
use borrow.Author.Tests.{lt-leb, le-leb}
use Rattle.queue.proofs.Numbers.{some_number}
use Rattle.queue.specs.Answers.{number_of}
use Rattle.rules.proofs.Refusals.{queue-stop, queue_go}
use Rattle.rules.specs.Refusals.{on_queue}
use Rattle.rules.specs.Choices.{ask}
use Rattle.rules.specs.Walks.{Walk, on_walk}
use Rattle.queue.specs.declared.refusals.Refusal.{Refusal}
use Rattle.queue.specs.declared.refusals.Refusal.TheVariants.{Record}

module _ (c : ℕ) (w : Walk) where
  pub first_stops : (x : Refusal) → on_queue c w.rec 0 ≡ number_of x → number_of x ≡ on_walk c w
  unfolding on_walk
  first_stops x e = sym (queue-stop c w.rec _ (number_of x) (some_number x) e)

  module _ (first : on_queue c w.rec 0 ≡ 0) where
    pub low_stops : w.high < w.low → number_of Record ≡ on_walk c w
    unfolding on_walk ask number_of
    low_stops lt = sym (queue_go c w.rec _ first ∙ rw (lt-leb w.low w.high lt))

    pub high_stops : w.low ≤ w.high → w.rec.len < w.high → number_of Record ≡ on_walk c w
    unfolding on_walk ask number_of
    high_stops le lt =
        sym (queue_go c w.rec _ first ∙ rw (le-leb w.low w.high le, lt-leb w.high w.rec.len lt))

    pub none_stops : w.low ≤ w.high → w.high ≤ w.rec.len → 0 ≡ on_walk c w
    unfolding on_walk ask
    none_stops le le' =
        sym (queue_go c w.rec _ first ∙ rw (le-leb w.low w.high le, le-leb w.high w.rec.len le'))
