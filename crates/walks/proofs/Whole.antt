-- What a walk gives: from either end what is left, to the last;
-- so a whole walk gives the list in order. Assumes nothing.
use mathlib.Core.List.{List, [], ◌∷◌, ◌++◌}
use mathlib.Core.Logic.{⊎_elim}
use mathlib.Core.Option.{Option, none, some}
use mathlib.Core.Path.{◌≡◌, refl, sym, ◌∙◌, ap, subst}
use Prim.Native.Nat.{ℕ, zero, suc, ◌<◌, ◌≤◌, ◌+◌, ◌-◌}
use native.Mathlib.Omega.{arith}
use lib.ListN.{length, take, drop, get_or, length-drop}
use lib.Seq.{take_all, take-suc, drop-cons, get_or-drop}
use Rattle.rules.proofs.Held.{length-held}
use Rattle.rules.proofs.Choices.{lt_or_ge}
use Rattle.rules.specs.Count.{as_list}
use Rattle.rules.specs.Records.{Rec, held}
use Rattle.rules.specs.Refusals.{on_queue}
use Rattle.rules.specs.Walks.{Walk, WalkStep, on_walk, whole_walk, next_step, next_back_step}
use Rattle.walks.proofs.Steps.{End, front, back, step_at, next_at, walk_after, walkable, nothing_left, one_given}
use Rattle.walks.specs.Lent.{ahead}
use Rattle.queue.proofs.WalkChecks.{none_stops}

module _ (b : List ℕ) (w : Walk) (z : on_walk (length b) w ≡ 0) where
  -- the element that a step gives, and what is left without it, at either end
  takes_first : w.low < w.high → ahead b w ≡ get_or (held b w.rec) w.low 0 ∷ ahead b (walk_after front w)
  takes_first lt =
      let k = walkable b w z in
      let l = held b w.rec in
      let more : w.high - w.low ≡ suc (w.high - (w.low + 1)) = omega arith in
      let rest : suc w.low ≡ w.low + 1 = omega arith in
      ap (λ (n : ℕ). take n (drop w.low l)) more
      ∙ ap (take (suc (w.high - (w.low + 1)))) (drop-cons l w.low 0 (omega (arith, length-held b w.rec)))
      ∙ ap (λ (n : ℕ). get_or l w.low 0 ∷ take (w.high - (w.low + 1)) (drop n l)) rest

  takes_last : w.low < w.high → ahead b w ≡ ahead b (walk_after back w) ++ get_or (held b w.rec) (w.high - 1) 0 ∷ []
  takes_last lt =
      let k = walkable b w z in
      let l = held b w.rec in
      let n = w.high - 1 - w.low in
      let more : w.high - w.low ≡ suc n = omega arith in
      let there : w.low + n ≡ w.high - 1 = omega arith in
      ap (λ (m : ℕ). take m (drop w.low l)) more
      ∙ take-suc (drop w.low l) n 0 (omega (arith, length-drop w.low l, length-held b w.rec))
      ∙ ap (λ (v : ℕ). take n (drop w.low l) ++ v ∷ []) (get_or-drop w.low l n 0 ∙ ap (λ (i : ℕ). get_or l i 0) there)

  none_ahead : w.high ≤ w.low → ahead b w ≡ []
  none_ahead le = let none_left : w.high - w.low ≡ 0 =
      omega arith in ap (λ (n : ℕ). take n (drop w.low (held b w.rec))) none_left

  -- by cases: nothing is left, and a step changes nothing; or it gives one
  by_cases : (e : End) (P : WalkStep → Type 0) → (ahead b w ≡ [] → P (record { refused = 0; walk = w; gives = none }))
      → (w.low < w.high → P (record
      { refused = 0; walk = walk_after e w; gives = some (get_or (held b w.rec) (next_at e w) 0) })) → P (step_at e b w)
  by_cases e P f g =
      let k = walkable b w z in
      ⊎_elim (λ lt. subst P (one_given e b w z _ (λ same. omega arith) refl) (g lt))
      (λ le. subst P (nothing_left e b w z (omega arith)) (f (none_ahead le))) (lt_or_ge w.low w.high)

  -- `next` gives the first of what is left, and leaves the others
  pub next-takes : ahead b w ≡ as_list (next_step b w).gives ++ ahead b (next_step b w).walk
  unfolding as_list
  next-takes = by_cases front (λ (s : WalkStep). ahead b w ≡ as_list s.gives ++ ahead b s.walk) (λ _. refl)
      takes_first

  -- `next_back` gives the last, and leaves the others
  pub next-back-takes : ahead b w ≡ ahead b (next_back_step b w).walk ++ as_list (next_back_step b w).gives
  unfolding as_list
  next-back-takes = by_cases back (λ (s : WalkStep). ahead b w ≡ ahead b s.walk ++ as_list s.gives)
      (λ e. e ∙ sym (ap (λ (l : List ℕ). l ++ []) e)) takes_last

  -- Nothing comes only where nothing is left
  pub nothing_ahead : (e : End) → (step_at e b w).gives ≡ none → ahead b w ≡ []
  nothing_ahead e = by_cases e (λ (s : WalkStep). s.gives ≡ none → ahead b w ≡ []) (λ none_left _. none_left)
      (λ lt same. cc)

  after_good : (e : End) → w.low < w.high → on_walk (length b) (walk_after e w) ≡ 0
  after_good front lt = let k = walkable b w z in sym
      (none_stops (length b) (walk_after front w) k.first (omega arith) (omega arith))
  after_good back lt = let k = walkable b w z in sym
      (none_stops (length b) (walk_after back w) k.first (omega arith) (omega arith))

  -- the walk after a step is good
  pub goes_on : (e : End) → on_walk (length b) (step_at e b w).walk ≡ 0
  goes_on e = by_cases e (λ (s : WalkStep). on_walk (length b) s.walk ≡ 0) (λ _. z) (after_good e)

-- what n steps from the front give
unfoldable pub fronts : ℕ → List ℕ → Walk → List ℕ
fronts zero b w = []
fronts (suc n) b w = as_list (next_step b w).gives ++ fronts n b (next_step b w).walk

one_more : (n : ℕ) (v : Option ℕ) (l m : List ℕ) → l ≡ as_list v ++ m → (v ≡ none → l ≡ [])
    → as_list v ++ take n m ≡ take (suc n) l
unfolding as_list
one_more n none l m e f = ap (take n) (sym e ∙ f refl) ∙ take_all n [] (omega arith) ∙ sym (ap (take (suc n)) (f refl))
one_more n (some v) l m e f = ap (take (suc n)) (sym e)

pub fronts_are : (n : ℕ) (b : List ℕ) (w : Walk) → on_walk (length b) w ≡ 0 → fronts n b w ≡ take n (ahead b w)
unfolding fronts
fronts_are zero b w z = refl
fronts_are (suc n) b w z = ap (λ (l : List ℕ). as_list (next_step b w).gives ++ l)
    (fronts_are n b (next_step b w).walk (goes_on b w z front))
    ∙ one_more n _ _ _ (next-takes b w z) (nothing_ahead b w z front)

-- what a whole walk has still to give is the list
pub whole_ahead : (b : List ℕ) (r : Rec) → ahead b (whole_walk r) ≡ held b r
unfolding whole_walk
whole_ahead b r = take_all (r.len - 0) (held b r) (omega (arith, length-held b r))

-- a whole walk, stepped len times, gives the list in order
pub in_order : (b : List ℕ) (r : Rec) → on_queue (length b) r 0 ≡ 0 → fronts r.len b (whole_walk r) ≡ held b r
unfolding whole_walk
in_order b r first =
    fronts_are r.len b (whole_walk r) (sym (none_stops (length b) (whole_walk r) first (omega arith) (omega arith)))
    ∙ ap (take r.len) (whole_ahead b r) ∙ take_all r.len (held b r) (omega (arith, length-held b r))
