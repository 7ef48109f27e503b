-- What a call sees in two queues by their lists. b, r and b', r': slots and records. Assumes nothing.
use mathlib.Core.List.{List}
use mathlib.Core.Path.{◌≡◌, ap, sym, ◌∙◌}
use Prim.Native.Nat.{ℕ, zero, suc}
use lib.ListN.{length}
use Rattle.std.specs.Prelude.{Result, IsErrAnd}
use Rattle.comparisons.specs.Lists.{both}
use Rattle.queue.specs.Answers.{number_of}
use Rattle.queue.specs.Looks.{look_of}
use Rattle.rules.proofs.Refusals.{queue_go}
use Rattle.rules.specs.Choices.{unless}
use Rattle.rules.specs.Looks.{sees, refuses, looked, look_at_both}
use Rattle.rules.specs.Records.{Rec, held}
use Rattle.rules.specs.Refusals.{on_queue}
use Rattle.runs.proofs.Asks.{asks_first, asks_refused, asks_seen, seen_is}
use Rattle.queue.specs.declared.refusals.Refusal.{Refusal}

-- a look that was refused asked for that number
asked : {A : Type 0} (n m : ℕ) (u : A) → refuses m ≡ looked n u → m ≡ n
unfolding looked unless
asked zero m u e = cc
asked (suc n) m u e = cc

module _ (b : List ℕ) (r : Rec) (b' : List ℕ) (r' : Rec) where
  -- at a `?`: refused by the tests of the first queue, or of the second
  module _ {A B : Type 0} (say : B → A) (f : List ℕ → List ℕ → A) (a : Result B Refusal) (x : Refusal)
      (is : IsErrAnd a (λ y. y ≡ x)) where
    pub first_refused : number_of x ≡ on_queue (length b) r 0 → look_of say a ≡ look_at_both b r b' r' f
    unfolding look_at_both
    first_refused e = asks_refused _ _ say a x is (asks_first (length b) r _ x e)

    pub second_refused : on_queue (length b) r 0 ≡ 0 → number_of x ≡ on_queue (length b') r' 0
        → look_of say a ≡ look_at_both b r b' r' f
    unfolding look_at_both
    second_refused first e = asks_refused _ _ say a x is (e ∙ sym (queue_go (length b) r _ first))

    -- or by both, which the look at the lists themselves asked
    pub both_refused : refuses (number_of x) ≡ look_at_both b r b' r' both → look_of say a ≡ look_at_both b r b' r' f
    unfolding look_at_both
    both_refused e = asks_refused _ _ say a x is (asked _ _ _ e)

  -- past them: l and m are the lists
  pub lists_seen : on_queue (length b) r 0 ≡ 0 → on_queue (length b') r' 0 ≡ 0 → (l m : List ℕ) → l ≡ held b r
      → m ≡ held b' r' → sees (l, m) ≡ look_at_both b r b' r' both
  unfolding look_at_both
  lists_seen first second l m e e' = rw (e, e') (asks_seen _ _ (queue_go (length b) r _ first ∙ second))

  pub both_seen : {A : Type 0} (f : List ℕ → List ℕ → A) (l m : List ℕ) → sees (l, m) ≡ look_at_both b r b' r' both
      → (u : A) → u ≡ f l m → sees u ≡ look_at_both b r b' r' f
  unfolding look_at_both
  both_seen f l m e u is =
      let k = seen_is _ _ _ e in
      ap sees (is ∙ ap (λ t. f t.0 t.1) k.1) ∙ asks_seen _ _ k.0
