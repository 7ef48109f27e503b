-- At a `?`: a call by a rule that can hand an element over is refused as the tests say (see queue/proofs/Checks).
-- Assumes nothing.
use mathlib.Core.List.{List}
use mathlib.Core.Path.{◌≡◌}
use Prim.Native.Nat.{ℕ}
use lib.ListN.{length}
use Rattle.std.specs.Prelude.{Result, IsErrAnd}
use Rattle.elements.specs.Answers.{of_handed}
use Rattle.queue.proofs.Checks.{same_refusal, told_first_lem}
use Rattle.queue.specs.Answers.{rec_of, number_of}
use Rattle.rules.specs.Outcome.{told, do_rule}
use Rattle.rules.specs.Refusals.{on_change}
use Rattle.rules.specs.Rule.{Rule}
use Rattle.elements.specs.declared.answers.Handed.{Handed}
use Rattle.queue.specs.declared.records.Deque.{Deque}
use Rattle.queue.specs.declared.refusals.Refusal.{Refusal}

pub handed_refused : (b : List ℕ) (q : Deque) (R : Rule) (a : Result (Handed Deque) Refusal) (x : Refusal)
    → IsErrAnd a (λ y. y ≡ x) → number_of x ≡ on_change (length b) (rec_of q) 0
    → (of_handed q a, b) ≡ told (do_rule b (rec_of q) R)
handed_refused b q R a x h e = rw (same_refusal a x h) (told_first_lem b (rec_of q) R x e)
