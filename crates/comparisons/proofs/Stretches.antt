-- Two lists that are cut at the same places are compared stretch by stretch, as the library compares arrays of slices.
-- Assumes nothing.
use mathlib.Core.Bool.{Bool, true, false, ◌&&◌}
use mathlib.Core.List.{List, [], ◌∷◌, ◌++◌}
use mathlib.Core.Logic.{⊎_elim, ◌≢◌}
use mathlib.Core.Path.{◌≡◌, refl, ap, sym, ◌∙◌}
use Prim.Native.Nat.{ℕ, suc, ◌+◌, ◌<◌, ◌≤◌}
use native.Mathlib.Omega.{arith}
use borrow.Author.Tests.{eq-eqb, ne_eqb, lt-ltb, le-ltb}
use denote.Ref.{Bor}
use lib.Dec.{eqb, ltb}
use lib.ListN.{length, length-append}
use lib.Pointwise.{pointwise}
use Rattle.std.specs.Cmp.Lexicographic.{slice_cmp}
use Rattle.std.specs.Ordering.{nat_cmp, ordering_then}
use Rattle.std.specs.declared.cmp.Ordering.{Ordering}
use Rattle.std.specs.declared.cmp.Ordering.TheVariants.{Less, Equal, Greater}
use Rattle.comparisons.specs.Stretches.{joined, CutAlike}
use Rattle.queue.specs.Looks.{order_of}
use Rattle.rules.proofs.Choices.{lt_or_ge}
use Rattle.rules.specs.Choices.{whether}
use Rattle.rules.specs.Looks.{same, Order, less, alike, greater, order}

and_assoc : (t u v : Bool) → (t && u) && v ≡ t && (u && v)
and_assoc true u v = refl
and_assoc false u v = refl

-- the order of what comes first decides, unless it is the same
after : Order → Order → Order
after less o = less
after alike o = o
after greater o = greater

after_whether : (e l : Bool) (p o : Order)
    → after (whether e p (whether l less greater)) o ≡ whether e (after p o) (whether l less greater)
unfolding after whether
after_whether true l p o = refl
after_whether false true p o = refl
after_whether false false p o = refl

-- ---- a stands behind s, and b behind t; but behind the shorter of s and t stands nothing

same_append : (s a t b : List ℕ) → (length s < length t → a ≡ []) → (length t < length s → b ≡ [])
    → same s t && same a b ≡ same (s ++ a) (t ++ b)
unfolding same
same_append [] a [] b f g = refl
same_append [] a (w ∷ t) b f g = rw (f (omega arith)) refl
same_append (v ∷ s) a [] b f g = rw (g (omega arith)) refl
same_append (v ∷ s) a (w ∷ t) b f g =
    and_assoc (eqb v w) (same s t) (same a b)
    ∙ ap (λ z. eqb v w && z) (same_append s a t b (λ lt. f (omega arith)) (λ lt. g (omega arith)))

order_append : (s a t b : List ℕ) → (length s < length t → a ≡ []) → (length t < length s → b ≡ [])
    → after (order s t) (order a b) ≡ order (s ++ a) (t ++ b)
unfolding order after
order_append [] a [] b f g = refl
order_append [] a (w ∷ t) b f g = rw (f (omega arith)) refl
order_append (v ∷ s) a [] b f g = rw (g (omega arith)) refl
order_append (v ∷ s) a (w ∷ t) b f g =
    after_whether (eqb v w) (ltb v w) (order s t) (order a b)
    ∙ ap (λ z. whether (eqb v w) z (whether (ltb v w) less greater))
    (order_append s a t b (λ lt. f (omega arith)) (λ lt. g (omega arith)))

-- ---- the library's tests of two slices are those of the rules

same_is : (l m : List ℕ) → pointwise eqb l m ≡ same l m
unfolding same
same_is [] [] = refl
same_is [] (w ∷ m) = refl
same_is (v ∷ l) [] = refl
same_is (v ∷ l) (w ∷ m) = ap (λ z. eqb v w && z) (same_is l m)

order_then : (o p : Ordering) → order_of (ordering_then o p) ≡ after (order_of o) (order_of p)
unfolding after
order_then Less p = refl
order_then Equal p = refl
order_then Greater p = refl

number_order : (v w : ℕ) (o : Order)
    → after (order_of (nat_cmp v w)) o ≡ whether (eqb v w) o (whether (ltb v w) less greater)
unfolding after whether
number_order v w o =
    ⊎_elim
    (λ (lt : v < w). rw (lt-ltb v w lt, ne_eqb v w (λ e. omega arith)))
    (λ (ge : w ≤ v). ⊎_elim
    (λ (gt : w < v). rw (le-ltb v w ge, ne_eqb v w (λ e. omega arith)))
    (λ (le : v ≤ w). let e : v ≡ w = omega arith in rw (le-ltb v w ge, eq-eqb v w e))
    (lt_or_ge w v))
    (lt_or_ge v w)

order_is : (l m : List ℕ) → order_of (slice_cmp nat_cmp l m) ≡ order l m
unfolding order
order_is [] [] = refl
order_is [] (w ∷ m) = refl
order_is (v ∷ l) [] = refl
order_is (v ∷ l) (w ∷ m) =
    order_then (nat_cmp v w) (slice_cmp nat_cmp l m)
    ∙ ap (after (order_of (nat_cmp v w))) (order_is l m)
    ∙ number_order v w (order l m)

-- ---- lists of two lengths

and_false : (t : Bool) {u : Bool} → false ≡ u → false ≡ t && u
and_false true e = e
and_false false e = refl

length_differs : (l m : List ℕ) → length l ≢ length m → false ≡ same l m
unfolding same
length_differs [] [] ne = absurd (ne refl)
length_differs [] (w ∷ m) ne = refl
length_differs (v ∷ l) [] ne = refl
length_differs (v ∷ l) (w ∷ m) ne = and_false (eqb v w) (length_differs l m (λ e. ne (ap suc e)))

-- each in two runs
pub runs_differ : (l m l' m' : List ℕ) → length l + length m ≢ length l' + length m' → false ≡ same (l ++ m) (l' ++ m')
runs_differ l m l' m' ne =
    length_differs (l ++ m) (l' ++ m') (λ e. ne (sym (length-append l m) ∙ e ∙ length-append l' m'))

-- ---- stretch by stretch

pub same_stretches : (ss ts : List (Bor (List ℕ))) → CutAlike ss ts
    → pointwise (λ s t. pointwise eqb s.now t.now) ss ts ≡ same (joined ss) (joined ts)
unfolding same
same_stretches [] [] c = refl
same_stretches [] (t ∷ ts) c = absurd c
same_stretches (s ∷ ss) [] c = absurd c
same_stretches (s ∷ ss) (t ∷ ts) c =
    ap (λ z. pointwise eqb s.now t.now && z) (same_stretches ss ts c.2)
    ∙ ap (λ z. z && same (joined ss) (joined ts)) (same_is s.now t.now)
    ∙ same_append s.now (joined ss) t.now (joined ts) c.0 c.1

pub order_stretches : (ss ts : List (Bor (List ℕ))) → CutAlike ss ts
    → order_of (slice_cmp (λ s t. slice_cmp nat_cmp s.now t.now) ss ts) ≡ order (joined ss) (joined ts)
unfolding order
order_stretches [] [] c = refl
order_stretches [] (t ∷ ts) c = absurd c
order_stretches (s ∷ ss) [] c = absurd c
order_stretches (s ∷ ss) (t ∷ ts) c =
    order_then (slice_cmp nat_cmp s.now t.now) (slice_cmp (λ s t. slice_cmp nat_cmp s.now t.now) ss ts)
    ∙ ap (after (order_of (slice_cmp nat_cmp s.now t.now))) (order_stretches ss ts c.2)
    ∙ ap (λ z. after z (order (joined ss) (joined ts))) (order_is s.now t.now)
    ∙ order_append s.now (joined ss) t.now (joined ts) c.0 c.1

-- cut alike either way
pub cut_turned : (ss ts : List (Bor (List ℕ))) → CutAlike ss ts → CutAlike ts ss
cut_turned [] [] c = c
cut_turned [] (t ∷ ts) c = c
cut_turned (s ∷ ss) [] c = c
cut_turned (s ∷ ss) (t ∷ ts) c = (c.1, c.0, cut_turned ss ts c.2)
