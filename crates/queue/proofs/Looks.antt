-- One law for each way in which a call that looks at a queue returns. b, r: the slots
-- and the record that it was given; f: what it sees in a list. Assumes nothing.
use mathlib.Core.List.{List}
use mathlib.Core.Path.{◌≡◌, ap, sym, ◌∙◌}
use Prim.Native.Nat.{ℕ}
use lib.ListN.{length}
use Rattle.std.specs.Prelude.{Result, IsErrAnd}
use Rattle.queue.proofs.Checks.{same_refusal}
use Rattle.queue.proofs.Numbers.{some_number}
use Rattle.queue.specs.Answers.{number_of}
use Rattle.queue.specs.Looks.{look_of}
use Rattle.rules.proofs.Choices.{unless-stop}
use Rattle.rules.specs.Looks.{sees, refuses, looked, look_at}
use Rattle.rules.specs.Records.{Rec, held}
use Rattle.rules.specs.Refusals.{on_queue}
use Rattle.rules.specs.Choices.{unless}
use Rattle.queue.specs.declared.refusals.Refusal.{Refusal}

module _ {A : Type 0} (b : List ℕ) (r : Rec) (f : List ℕ → A) where
  -- refused by the tests of slots and record
  pub look_first : (x : Refusal) → number_of x ≡ on_queue (length b) r 0 → refuses (number_of x) ≡ look_at b r f
  unfolding look_at looked
  look_first x e =
      sym (ap (λ (n : ℕ). looked n (f (held b r))) (sym e) ∙ unless-stop (number_of x) _ _ (some_number x))

  -- past them: a is what is seen
  pub look_past : on_queue (length b) r 0 ≡ 0 → (a : A) → a ≡ f (held b r) → sees a ≡ look_at b r f
  unfolding look_at looked unless
  look_past first a e = rw (first, e)

-- and so at a `?`
pub look_refused : {A B : Type 0} (say : B → A) (b : List ℕ) (r : Rec) (f : List ℕ → A) (a : Result B Refusal)
    (x : Refusal) → IsErrAnd a (λ y. y ≡ x) → number_of x ≡ on_queue (length b) r 0 → look_of say a ≡ look_at b r f
look_refused say b r f a x h e = rw (same_refusal a x h) (look_first b r f x e)
