-- A list laid behind the one that stands, and in front of it: only the new one is written. Assumes nothing.
use mathlib.Core.List.{List, [], ◌∷◌, ◌++◌, append-nil}
use mathlib.Core.Path.{◌≡◌, ap, ◌∙◌, sym}
use Prim.Native.Nat.{ℕ, ◌≤◌, ◌-◌, zero, suc, ◌<◌, ◌+◌}
use native.Mathlib.Omega.{arith}
use lib.ListN.{length, take}
use Rattle.rules.proofs.Places.{place-low, place-back, wrapped-high}
use Rattle.rules.proofs.Ring.{write-behind, read-write, write-append, write_read}
use Rattle.rules.proofs.Slots.{lay_none, list_of_take, lay-own}
use Rattle.rules.specs.Places.{place, step_back}
use Rattle.rules.specs.Slots.{lay, list_of, read, write}

-- the first of the elements that stand, laid where they stand
pub lay_first : (b : List ℕ) (head n m : ℕ) → head ≤ length b - 1 → m ≤ length b → n ≤ m
    → lay b head (take n (list_of b head m)) ≡ b
lay_first b head zero m good fits le = lay_none b head
lay_first b head (suc n) m good fits le =
    ap (lay b head) (list_of_take b head (omega arith) (suc n) m le fits) ∙ lay-own b head (suc n)

module _ (b : List ℕ) (head n : ℕ) (l : List ℕ) (in_ring : head < length b) (fits : n + length l ≤ length b) where
  -- behind
  lay-behind : lay b (place (length b) head n) l ≡ lay b head (list_of b head n ++ l)
  lay-behind = sym (write-behind (length b) b head n l in_ring (omega arith))

  -- in front
  lay_before : lay b (step_back (length b) head (length l)) l
      ≡ lay b (step_back (length b) head (length l)) (l ++ list_of b head n)
  lay_before =
      let cap = length b in
      let g = step_back cap head (length l) in
      let g_in : g < cap = place-low cap head in_ring (cap - length l) (omega arith) in
      let on : place cap g (length l) ≡ head =
      ap (place cap g) (omega arith) ∙ place-back cap head in_ring (cap - length l) (omega arith) in
      let same : read cap (lay b g l) head n ≡ list_of b head n =
      rw on at (read-write cap b g l (length l) n g_in (omega arith) (omega arith)) in
      sym
      (write-append cap b g l (list_of b head n) g_in (omega arith)
      ∙ ap (λ (h : ℕ). write cap (lay b g l) h (list_of b head n)) on
      ∙ ap (write cap (lay b g l) head) (sym same)
      ∙ write_read cap (lay b g l) head n)

-- where there may be no slot at all, and then nothing to lay
pub none_laid : (b : List ℕ) (p : ℕ) (l : List ℕ) → length l ≡ 0 → lay b p l ≡ b
none_laid b p [] e = lay_none b p
none_laid b p (v ∷ l) e = absurd (omega arith)

pub lay-behind_good : (b : List ℕ) (head n : ℕ) (l : List ℕ) → head ≤ length b - 1 → n + length l ≤ length b
    → lay b (place (length b) head n) l ≡ lay b head (list_of b head n ++ l)
lay-behind_good b head n [] good fits = lay_none b _ ∙ sym (rw append-nil (lay-own b head n))
lay-behind_good b head n (v ∷ l) good fits = lay-behind b head n (v ∷ l) (omega arith) fits

pub lay-before_good : (b : List ℕ) (head n : ℕ) (l : List ℕ) → head ≤ length b - 1 → n + length l ≤ length b
    → lay b (step_back (length b) head (length l)) l
    ≡ lay b (step_back (length b) head (length l)) (l ++ list_of b head n)
lay-before_good b head n [] good fits =
    let stays : step_back (length b) head 0 ≡ head = wrapped-high _ _ (omega arith) ∙ omega arith in
    lay_none b _ ∙ sym (ap (λ (h : ℕ). lay b h (list_of b head n)) stays ∙ lay-own b head n)
lay-before_good b head n (v ∷ l) good fits = lay_before b head n (v ∷ l) (omega arith) fits
