-- The elements of the last line, as looks at them find them. Assumes nothing.
use mathlib.Core.List.{List, [], ◌∷◌}
use mathlib.Core.Option.{Option, none, some}
use mathlib.Core.Path.{◌≡◌, refl, sym, ◌∙◌, ap, subst}
use Prim.Native.Nat.{ℕ, zero, suc, ◌+◌, ◌≤◌, ◌<◌, suc-le-suc, zero-le}
use native.Mathlib.Omega.{arith}
use lib.ListN.{length, get_elem?}
use Rattle.std.specs.Prelude.{Result, Ok, Err}
use Rattle.std.specs.Prelude as code
use Rattle.std.specs.Option.{option_flatten}
use Rattle.std.specs.Result.{result_ok}
use Rattle.elements.specs.Answers.{given}
use Rattle.queue.specs.Looks.{look_of}
use Rattle.queue.specs.declared.refusals.Refusal.{Refusal}
use Rattle.plays.specs.Pieces.{word_of}
use Rattle.rules.specs.WholeReplay.{Play, ending, in_elements, over, elements}
use Rattle.rules.proofs.Slots.{length_list_of}
use Rattle.rules.specs.Choices.{unless}
use Rattle.rules.specs.Looks.{Look, sees, refuses, looked, look_at, at_position}
use Rattle.rules.specs.Records.{Rec, held}
use Rattle.rules.specs.Refusals.{on_queue}
use Rattle.rules.specs.Replays.{decimal, newline, space}

-- what the code's look answers
abbrev pub Found : Type 0
Found = Result (code.Option ℕ) Refusal

-- what a look found: nothing where it was refused
abbrev pub found : Look (Option ℕ) → Option ℕ
found (sees o) = o
found (refuses n) = none

looks_in : (n : ℕ) (l : List ℕ) (i : ℕ) → get_elem? (unless n l []) i ≡ found (looked n (get_elem? l i))
unfolding looked unless
looks_in zero l i = refl
looks_in (suc n) l i = refl

module _ (b : List ℕ) (r : Rec) (i : ℕ) (f : Found) (h : look_of given f ≡ look_at b r (at_position i)) where
  in_elements_lem : get_elem? (elements b r) i ≡ found (look_of given f)
  unfolding elements look_at
  in_elements_lem = looks_in (on_queue (length b) r 0) (held b r) i ∙ ap found (sym h)

-- a position at which an element stands is one of the queue's
abbrev Some : Option ℕ → Type 0
Some none = ⊥
Some (some v) = Unit

some_in : (l : List ℕ) (i : ℕ) → Some (get_elem? l i) → i < length l
some_in [] i h = absurd h
some_in (v ∷ l) zero h = suc-le-suc zero-le
some_in (v ∷ l) (suc i) h = suc-le-suc (some_in l i h)

few_elements : (n : ℕ) (b : List ℕ) (r : Rec) → length (unless n (held b r) []) ≤ r.len
unfolding unless held
few_elements zero b r = omega (arith, length_list_of b r.head r.len)
few_elements (suc n) b r = omega arith

-- the element of such an answer, if there is one: `.ok().flatten()`
pub found_given : (f : Found) (o : code.Option ℕ) → o ≡ option_flatten (result_ok f)
    → found (look_of given f) ≡ given o
found_given (Ok o') o e = ap given (sym e)
found_given (Err x) o e = ap given (sym e)

-- a word of the last line uses no bytes and plays no record
pub word_uses : (y : Play) (i : ℕ) (o : Option ℕ) → ((word_of y i o).used ≡ 0) × ((word_of y i o).records ≡ 0)
unfolding word_of ending
word_uses y i none = (refl, refl)
word_uses y i (some v) = (refl, refl)

module _ (y : Play) (i : ℕ) (f : Found) (h : look_of given f ≡ look_at y.slots y.queue (at_position i)) where
  at_found : word_of y i (found (look_of given f)) ≡ word_of y i (get_elem? (elements y.slots y.queue) i)
  at_found = ap (word_of y i) (sym (in_elements_lem y.slots y.queue i f h))

  pub at_element : (v k : ℕ) → k ≡ i + 1 → found (look_of given f) ≡ some v → ending y (in_elements k) (space ∷ decimal v)
      ≡ word_of y i (get_elem? (elements y.slots y.queue) i)
  unfolding word_of
  at_element v k at-k is =
      ap (λ (j : ℕ). ending y (in_elements j) (space ∷ decimal v)) at-k ∙ ap (word_of y i) (sym is) ∙ at_found

  pub at_newline : found (look_of given f) ≡ none → ending y over (newline ∷ [])
      ≡ word_of y i (get_elem? (elements y.slots y.queue) i)
  unfolding word_of
  at_newline nothing = ap (word_of y i) (sym nothing) ∙ at_found

  pub element-low : (v : ℕ) → found (look_of given f) ≡ some v → i < y.queue.len
  unfolding elements
  element-low v is =
      let there = some_in (elements y.slots y.queue) i
      (subst Some (sym (in_elements_lem y.slots y.queue i f h ∙ is)) tt) in
      omega (arith, there, few_elements (on_queue (length y.slots) y.queue 0) y.slots y.queue)
