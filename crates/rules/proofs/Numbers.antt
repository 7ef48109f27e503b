-- A rule carries elements along without looking at more than their numbers: what
-- it leaves of traced elements are the elements that it leaves. Assumes nothing.
use mathlib.Core.Bool.{Bool}
use mathlib.Core.List.{List, map, ◌++◌, [], ◌∷◌}
use mathlib.Core.Path.{◌≡◌, refl, ap}
use Prim.Native.Nat.{ℕ, zero, suc, ◌-◌}
use lib.ListN.{take, drop, set, get_or, replicate, length-map, length}
use Rattle.rules.proofs.MovedEnds.{passes-number}
use Rattle.rules.proofs.Choices.{by-test₂}
use Rattle.rules.specs.Calls.{Op, rule, push_back!, push_front!, pop_front!, pop_back!, pop_front_if!, pop_back_if!, truncate!, truncate_front!, clear!, extend!, prepend!, extend_front!, resize!, insert!, remove!, swap!, swap_remove_front!, swap_remove_back!, retain!, splice! }
use Rattle.rules.specs.Conditions.{those, meets}
use Rattle.rules.specs.Ends.{push_back, push_front, pop_front, pop_back, pop_front_if, pop_back_if, truncate, truncate_front, clear, exchange, swap_remove_front, swap_remove_back}
use Rattle.rules.specs.Joins.{extend_with, prepend, extend_front, resize}
use Rattle.rules.specs.Middle.{insert_at, remove_at, retain}
use Rattle.rules.specs.Moves.{Traced, traced}
use Rattle.rules.specs.Rule.{Rule, after, numbers}
use Rattle.rules.specs.Splice.{splice}
use Rattle.rules.specs.Choices.{whether}

abbrev pub number_of : Traced → ℕ
number_of e = e.number

abbrev pub Natural : Rule → Type 0
Natural R = (w : List Traced) → map number_of (R.list Traced traced w) ≡ after R (map number_of w)

map_join : (l m : List Traced) → map number_of (l ++ m) ≡ map number_of l ++ map number_of m
map_join [] m = refl
map_join (e ∷ l) m = ap (λ (x : List ℕ). number_of e ∷ x) (map_join l m)

pub map_first : (n : ℕ) (l : List Traced) → map number_of (take n l) ≡ take n (map number_of l)
map_first zero l = refl
map_first (suc n) [] = refl
map_first (suc n) (e ∷ l) = ap (λ (x : List ℕ). number_of e ∷ x) (map_first n l)

pub map_rest : (n : ℕ) (l : List Traced) → map number_of (drop n l) ≡ drop n (map number_of l)
map_rest zero l = refl
map_rest (suc n) [] = refl
map_rest (suc n) (e ∷ l) = map_rest n l

pub made-numbers : (vs : List ℕ) → map number_of (map traced.brought vs) ≡ map numbers.brought vs
made-numbers [] = refl
made-numbers (v ∷ vs) = ap (λ (x : List ℕ). v ∷ x) (made-numbers vs)

map_put : (l : List Traced) (i : ℕ) (e : Traced) → map number_of (set l i e) ≡ set (map number_of l) i (number_of e)
map_put [] i e = refl
map_put (x ∷ l) zero e = refl
map_put (x ∷ l) (suc i) e = ap (λ (y : List ℕ). number_of x ∷ y) (map_put l i e)

map_at : (l : List Traced) (i : ℕ) → number_of (get_or l i (traced.brought 0)) ≡ get_or (map number_of l) i 0
map_at [] i = refl
map_at (x ∷ l) zero = refl
map_at (x ∷ l) (suc i) = map_at l i

map_copies : (n v : ℕ) → map number_of (replicate n (traced.brought v)) ≡ replicate n v
map_copies zero v = refl
map_copies (suc n) v = ap (λ (x : List ℕ). v ∷ x) (map_copies n v)

map-those : (f : ℕ → Bool) (l : List Traced)
    → map number_of (those (λ (e : Traced). f e.number) l) ≡ those f (map number_of l)
unfolding those
map-those f [] = refl
map-those f (e ∷ l) =
    by-test₂ (f e.number) {a = e ∷ those (λ (x : Traced). f x.number) l}
    {b = those (λ (x : Traced). f x.number) l} {c = e.number ∷ those f (map number_of l)}
    {d = those f (map number_of l)}
    (λ x y. map number_of x ≡ y) (λ t. ap (λ (x : List ℕ). e.number ∷ x) (map-those f l)) (λ t. map-those f l)

-- a choice
map_whether : (t : Bool) (l m : List Traced) (x y : List ℕ) → map number_of l ≡ x → map number_of m ≡ y
    → map number_of (whether t l m) ≡ whether t x y
map_whether t l m x y e f = by-test₂ t (λ (a : List Traced) (c : List ℕ). map number_of a ≡ c) (λ u. e) (λ u. f)

pub natural : (o : Op) → Natural (rule o)
unfolding rule push_back push_front pop_front pop_back pop_front_if pop_back_if truncate truncate_front clear extend_with prepend
    extend_front resize insert_at remove_at exchange swap_remove_front swap_remove_back retain splice
natural (push_back! v) w = rw map_join
natural (push_front! v) w = refl
natural pop_front! w = map_rest 1 w
natural pop_back! w = rw (length-map, map_first)
natural (pop_front_if! t) w = rw (passes-number (meets t) w 0) (map_whether _ _ _ _ _ (map_rest 1 w) refl)
natural (pop_back_if! t) w = rw (passes-number (meets t) w (length w - 1), length-map)
    (map_whether _ _ _ _ _ (map_first (length w - 1) w) refl)
natural (truncate! m) w = map_first m w
natural (truncate_front! m) w = rw (length-map, map_rest)
natural clear! w = refl
natural (extend! vs) w = rw (map_join, made-numbers)
natural (prepend! vs) w = rw (map_join, made-numbers)
natural (extend_front! vs) w = rw (map_join, made-numbers)
natural (resize! m v) w = rw (map_join, map_first, map_copies, length-map)
natural (insert! i v) w = rw (map_join, map_first)
    (ap (λ (x : List ℕ). take i (map number_of w) ++ v ∷ x) (map_rest i w))
natural (remove! i) w = rw (map_join, map_first, map_rest)
natural (swap! i j) w = rw (map_put, map_put, map_at, map_at)
natural (swap_remove_front! i) w = rw length-map (map_whether _ _ _ _ _ (rw (map_rest, map_put, map_at)) refl)
natural (swap_remove_back! i) w = rw length-map (map_whether _ _ _ _ _ (rw (map_first, map_put, map_at)) refl)
natural (retain! t) w = map-those (meets t) w
natural (splice! s e vs) w = rw (map_join, map_join, map_first, map_rest, made-numbers)
