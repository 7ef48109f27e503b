-- A borrowing walk as std's own iterator: from either end it gives what it has still to give. Assumes nothing.
use mathlib.Core.List.{List, [], ◌∷◌, ◌++◌, append-nil}
use mathlib.Core.Logic.{◌≢◌, ⊎_elim}
use mathlib.Core.Option.{none}
use mathlib.Core.Path.{◌≡◌, refl, sym, ◌∙◌, ap}
use Prim.Native.Nat.{ℕ}
use native.Mathlib.Omega.{arith}
use borrow.Author.Tests.{le-leb}
use denote.Ref.{Bor}
use lib.ListN.{length, length-append}
use Rattle.std.specs.Iterator.{MakesProgress, YieldsFirst, YieldsLast, item_count}
use Rattle.std.specs.Option.{MatchOption}
use Rattle.std.specs.Prelude.{Option, None, Some, Result, Ok, Err}
use Rattle.std.specs.Result.{result_unwrap_or}
use Rattle.elements.specs.Answers.{given}
use Rattle.queue.specs.declared.refusals.Refusal.{Refusal}
use Rattle.rules.proofs.Choices.{unless-go, unless-stop, lt_or_ge}
use Rattle.rules.specs.Choices.{ask, unless}
use Rattle.rules.specs.Count.{as_list}
use Rattle.rules.specs.Records.{Rec, held}
use Rattle.rules.specs.Refusals.{on_queue}
use Rattle.rules.specs.Walks.{Walk, on_walk, next_step, next_back_step, same_walk, whole_walk}
use Rattle.walks.proofs.Steps.{End, front, back, step_at, step_is}
use Rattle.walks.proofs.Whole.{next-takes, next-back-takes, nothing_ahead, goes_on, whole_ahead}
use Rattle.walks.specs.Lent.{ahead, left_in, left_over, iterator_walk, iterator_step, step_to}
use Rattle.walks.specs.declared.lent.Iterator.{Iterator}
use Rattle.walks.specs.declared.lent.IteratorStep.{IteratorStep}

module _ (b : List ℕ) (w : Walk) where
  -- what holds of a good walk, and of one that stays since its steps are refused, holds of this one
  by_goodness : {A : Type 0} → (on_walk (length b) w ≡ 0 → A) → (on_walk (length b) w ≢ 0 → A) → A
  by_goodness f g = ⊎_elim (λ lt. g (λ e. omega arith)) (λ le. f (omega arith)) (lt_or_ge 0 (on_walk (length b) w))

  good_left : on_walk (length b) w ≡ 0 → left_in b w ≡ ahead b w
  unfolding left_in
  good_left z = unless-go _ _ _ z

  bad_left : on_walk (length b) w ≢ 0 → left_in b w ≡ []
  unfolding left_in
  bad_left bad = unless-stop _ _ _ bad

  bad_step : (e : End) → on_walk (length b) w ≢ 0 → step_at e b w ≡ same_walk w (on_walk (length b) w)
  bad_step e bad = step_is e b w ∙ unless-stop _ _ _ bad

-- a step gives the first, or the last, of what is left, or there is none
module _ (b : List ℕ) (w : Walk) where
  stays_good : (e : End) → on_walk (length b) w ≡ 0 → left_in b (step_at e b w).walk ≡ ahead b (step_at e b w).walk
  stays_good e z = good_left b (step_at e b w).walk (goes_on b w z e)

  first_left : left_in b w ≡ as_list (next_step b w).gives ++ left_in b (next_step b w).walk
  unfolding as_list same_walk
  first_left =
      by_goodness b w
      (λ z. good_left b w z ∙ next-takes b w z
      ∙ ap (λ l. as_list (next_step b w).gives ++ l) (sym (stays_good front z)))
      (λ bad. rw (bad_step b w front bad, bad_left b w bad))

  last_left : left_in b w ≡ left_in b (next_back_step b w).walk ++ as_list (next_back_step b w).gives
  unfolding as_list same_walk
  last_left =
      by_goodness b w
      (λ z. good_left b w z ∙ next-back-takes b w z
      ∙ ap (λ l. l ++ as_list (next_back_step b w).gives) (sym (stays_good back z)))
      (λ bad. rw (bad_step b w back bad, bad_left b w bad))

  none_left : (e : End) → (step_at e b w).gives ≡ none → left_in b w ≡ []
  none_left e n = by_goodness b w (λ z. good_left b w z ∙ nothing_ahead b w z e n) (bad_left b w)

-- ---- as std says it: r is what it gave, l what was left, and m what is left after

first_of : (l m : List ℕ) (r : Option ℕ) → l ≡ as_list (given r) ++ m → (given r ≡ none → l ≡ [])
    → MatchOption r ((l ≡ []) × (m ≡ [])) (λ x. l ≡ x ∷ m)
unfolding as_list
first_of l m None e f = (f refl, sym e ∙ f refl)
first_of l m (Some x) e f = e

last_of : (l m : List ℕ) (r : Option ℕ) → l ≡ m ++ as_list (given r) → (given r ≡ none → l ≡ [])
    → MatchOption r ((l ≡ []) × (m ≡ [])) (λ x. l ≡ m ++ x ∷ [])
unfolding as_list
last_of l m None e f = (f refl, sym (e ∙ append-nil m) ∙ f refl)
last_of l m (Some x) e f = e

-- so a step lowers how much is left
module _ {S A : Type 0} (rest : S → List A) (can : S → Type 0) (any : (s : S) → can s) (s t : S) where
  goes_first : (r : Option A) → YieldsFirst rest s r t → MakesProgress can (item_count rest) s r t
  goes_first None e = record { on = λ f. tt; keeps = tt; rests = λ f. f }
  goes_first (Some x) e = record { on = λ f. (any t, f, omega (arith, ap length e)); keeps = any t; rests = λ f. tt }

  goes_last : (r : Option A) → YieldsLast rest s r t → MakesProgress can (item_count rest) s r t
  goes_last None e = record { on = λ f. tt; keeps = tt; rests = λ f. f }
  goes_last (Some x) e = record {
    on = λ f. (any t, f, omega (arith, ap length e, length-append (rest t) (x ∷ [])));
    keeps = any t;
    rests = λ f. tt;
  }

-- ---- of a borrowing walk

-- what a step of it tells, of what it gave and of the walk that it left
tells : (w : Walk) (a : Result (Option ℕ) Refusal)
    → ((step_to w a).gives ≡ given (result_unwrap_or a None)) × ((step_to w a).walk ≡ w)
tells w (Ok v) = (refl, refl)
tells w (Err x) = (refl, refl)

module _ (i : Iterator) (s : IteratorStep) (slots : s.walk.slots ≡ i.slots) (e : End)
    (step : iterator_step s ≡ step_at e i.slots.now (iterator_walk i)) where
  abbrev gave : Option ℕ
  gave = result_unwrap_or s.number None

  gave_is : (step_at e i.slots.now (iterator_walk i)).gives ≡ given gave
  gave_is = ap (λ t. t.gives) (sym step) ∙ (tells (iterator_walk s.walk) s.number).0

  left_is : left_in i.slots.now (step_at e i.slots.now (iterator_walk i)).walk ≡ left_over s.walk
  left_is =
      ap (λ t. left_in i.slots.now t.walk) (sym step)
      ∙ ap (left_in i.slots.now) (tells (iterator_walk s.walk) s.number).1
      ∙ ap (λ t. left_in t.now (iterator_walk s.walk)) (sym slots)

module _ (i : Iterator) (s : IteratorStep) (slots : s.walk.slots ≡ i.slots) where
  pub gives_first : iterator_step s ≡ next_step i.slots.now (iterator_walk i)
      → YieldsFirst left_over i (result_unwrap_or s.number None) s.walk
  gives_first step =
      first_of _ _ _ (rw (← gave_is i s slots front step, ← left_is i s slots front step) (first_left _ _))
      (λ n. none_left _ _ front (gave_is i s slots front step ∙ n))

  pub nears_first : iterator_step s ≡ next_step i.slots.now (iterator_walk i)
      → MakesProgress (λ _. Unit {0}) (item_count left_over) i (result_unwrap_or s.number None) s.walk
  nears_first step = goes_first left_over _ (λ _. tt) i s.walk _ (gives_first step)

  pub gives_last : iterator_step s ≡ next_back_step i.slots.now (iterator_walk i)
      → YieldsLast left_over i (result_unwrap_or s.number None) s.walk
  gives_last step =
      last_of _ _ _ (rw (← gave_is i s slots back step, ← left_is i s slots back step) (last_left _ _))
      (λ n. none_left _ _ back (gave_is i s slots back step ∙ n))

  pub nears_last : iterator_step s ≡ next_back_step i.slots.now (iterator_walk i)
      → MakesProgress (λ _. Unit {0}) (item_count left_over) i (result_unwrap_or s.number None) s.walk
  nears_last step = goes_last left_over _ (λ _. tt) i s.walk _ (gives_last step)

-- ---- a walk over the whole list has it to give, where the record is good

whole_asks : (c : ℕ) (r : Rec) → on_walk c (whole_walk r) ≡ on_queue c r 0
unfolding on_walk whole_walk ask
whole_asks c r = rw (le-leb 0 r.len (omega arith), le-leb r.len r.len (omega arith))

whole_left : (b : List ℕ) (r : Rec) → left_in b (whole_walk r) ≡ unless (on_queue (length b) r 0) (held b r) []
unfolding left_in
whole_left b r = rw (whole_asks (length b) r, whole_ahead b r)

pub list_left : (i : Iterator) (slots : Bor (List ℕ)) (r : Rec) → i.slots ≡ slots → iterator_walk i ≡ whole_walk r
    → left_over i ≡ unless (on_queue (length slots.now) r 0) (held slots.now r) []
list_left i slots r e f = rw (e, f) (whole_left slots.now r)
