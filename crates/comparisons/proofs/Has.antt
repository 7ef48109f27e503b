-- Whether a number stands in a list: what a hit and what a walk without one show. Assumes nothing.
use mathlib.Core.Bool.{Bool, ◌||◌, true, false}
use mathlib.Core.List.{List, [], ◌∷◌, ◌++◌}
use mathlib.Core.Path.{◌≡◌, refl, sym}
use Prim.Native.Nat.{ℕ, ◌<◌, suc, zero}
use native.Mathlib.Nat.{not-suc-le-zero}
use native.Mathlib.Omega.{arith}
use borrow.Author.Tests.{ne_eqb, eq-eqb}
use lib.Dec.{eqb}
use lib.ListN.{length, get_or}
use Rattle.rules.specs.Looks.{has}

or_true : (t : Bool) → t || true ≡ true
or_true true = refl
or_true false = refl

or_assoc : (s t u : Bool) → s || (t || u) ≡ (s || t) || u
or_assoc true t u = refl
or_assoc false t u = refl

module _ (x : ℕ) where
  pub has_none : (l : List ℕ) → ((k : ℕ) → k < length l → get_or l k 0 ≡ x → ⊥) → has x l ≡ false
  unfolding has
  has_none [] h = refl
  has_none (v ∷ l) h = rw (ne_eqb v x (h 0 (omega arith))) (has_none l (λ k lt e. h (suc k) (omega arith) e))

  has_some : (l : List ℕ) (k : ℕ) → k < length l → get_or l k 0 ≡ x → has x l ≡ true
  unfolding has
  has_some [] k lt e = absurd (not-suc-le-zero lt)
  has_some (v ∷ l) zero lt e = rw (eq-eqb v x e)
  has_some (v ∷ l) (suc k) lt e = rw (has_some l k (omega arith) e) (or_true (eqb v x))

  has-append : (l m : List ℕ) → has x (l ++ m) ≡ has x l || has x m
  unfolding has
  has-append [] m = refl
  has-append (v ∷ l) m = rw (has-append l m) (or_assoc (eqb v x) (has x l) (has x m))

  -- of two runs, one behind the other: a hit in either, and none in both
  module _ (l m : List ℕ) where
    pub hit_front : (k : ℕ) → k < length l → get_or l k 0 ≡ x → true ≡ has x (l ++ m)
    hit_front k lt e = rw (has-append l m, has_some l k lt e)

    pub hit_back : (k : ℕ) → k < length m → get_or m k 0 ≡ x → true ≡ has x (l ++ m)
    hit_back k lt e = rw (has-append l m, has_some m k lt e) (sym (or_true (has x l)))

    pub no_hit : has x l ≡ false → has x m ≡ false → false ≡ has x (l ++ m)
    no_hit p q = rw (has-append l m, p, q)
