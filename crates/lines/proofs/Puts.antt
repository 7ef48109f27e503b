-- Bytes put one behind the other. Assumes nothing.
use mathlib.Core.List.{List, [], ◌∷◌, ◌++◌}
use mathlib.Core.Path.{◌≡◌, refl, ◌∙◌, ap, subst}
use Prim.Native.Nat.{ℕ, ◌+◌}
use native.Mathlib.Omega.{arith}
use lib.ListN.{set, length-append}
use lib.Seq.{sets}
use Rattle.images.proofs.Bytes.{sets_append}
use Rattle.lines.specs.Puts.{Puts}

module _ (t : List ℕ) (p : ℕ) where
  pub puts_none : Puts t t p p []
  puts_none = record { stands = refl; next = omega arith }

  -- one byte
  pub puts_one : (v q : ℕ) → q ≡ p + 1 → Puts t (set t p v) p q (v ∷ [])
  puts_one v q e = record { stands = refl; next = e }

  -- then others
  pub puts-append : (t1 t2 : List ℕ) (q r : ℕ) (s u : List ℕ) → Puts t t1 p q s → Puts t1 t2 q r u
      → Puts t t2 p r (s ++ u)
  puts-append t1 t2 q r s u a b = record {
    stands = b.stands ∙ ap (λ (x : List ℕ). sets x q u) a.stands ∙ sets_append t p q s u a.next;
    next = omega (arith, a.next, b.next, length-append s u);
  }

  -- then one more
  pub puts_more : (t1 : List ℕ) (q r v : ℕ) (s : List ℕ) → Puts t t1 p q s → r ≡ q + 1
      → Puts t (set t1 q v) p r (s ++ v ∷ [])
  puts_more t1 q r v s a e = record {
    stands = ap (λ (x : List ℕ). set x q v) a.stands ∙ sets_append t p q s (v ∷ []) a.next;
    next = omega (arith, a.next, e, length-append s (v ∷ []));
  }

  -- the same bytes, otherwise said
  pub puts_as : (t' : List ℕ) (q : ℕ) (s u : List ℕ) → s ≡ u → Puts t t' p q s → Puts t t' p q u
  puts_as t' q s u e a = subst (λ (x : List ℕ). Puts t t' p q x) e a
