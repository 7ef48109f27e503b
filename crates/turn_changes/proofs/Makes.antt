-- A call that makes a record does as the rules say. Assumes nothing.
use mathlib.Core.List.{List}
use mathlib.Core.Path.{◌≡◌, ◌∙◌, ap}
use Prim.Native.Nat.{ℕ}
use Rattle.std.specs.Prelude.{Result}
use Rattle.answers.proofs.Forms.{made_form}
use Rattle.answers.specs.Answers.{made_answer}
use Rattle.queue.specs.Answers.{changing, queued, of_made}
use Rattle.rules.specs.Makes.{MakeAnswer, MakeOutcome, told_make}
use Rattle.rules.specs.Outcome.{Answer, State, told}
use Rattle.rules.specs.Sequences.{do_make}
use Rattle.queue.specs.declared.answers.Change.{Change}
use Rattle.queue.specs.declared.records.Deque.{Deque}
use Rattle.queue.specs.declared.refusals.Refusal.{Refusal}

-- p is the answer in the one form, a in the call's own; h was held, b are the slots before, b' those after
pub makes : (b b' : List ℕ) (p : Answer) (h : State) (a : Result (Change Deque) Refusal) (m : MakeOutcome)
    → p ≡ changing queued h a → (of_made a, b') ≡ told_make m → (p, b') ≡ told (do_make b h m)
unfolding do_make
makes b b' p h a m same e =
    (λ i. ((same ∙ made_form h a) i, b')) ∙ ap (λ (x : MakeAnswer × List ℕ). (made_answer h x.0, x.1)) e
