-- Numbers as bytes, and bytes as numbers. Assumes nothing.
use Rattle.std.proofs.Common.{◌≡◌, ℕ, suc, ◌+◌, ◌*◌, ◌≤◌, List, [], ◌∷◌, ◌++◌, length, take, drop, set, refl, ap, ◌∙◌, sym, append_assoc, length-take, length-drop, ◌-◌, arith}
use Rattle.std.proofs.lemmas.List.Edits.{sets, sets-eq}
use Rattle.std.proofs.lemmas.List.{drop-drop, take_rest}
use Rattle.std.specs.Int.{from_be_bytes, w16, w32}
use Rattle.std.specs.Array.{IsFirstChunk}
use borrow.Rule.Slice.PartMut.{put_mid}
use Rattle.rules.specs.Images.{big_endian, four_bytes, all_bytes}

-- ---- big-endian, as std reads it

pub two_number : (l : List ℕ) → length l ≡ 2 → from_be_bytes w16 l ≡ big_endian 0 l
unfolding big_endian
two_number [] e = absurd (omega arith)
two_number (a ∷ []) e = absurd (omega arith)
two_number (a ∷ (b ∷ [])) e = omega arith
two_number (a ∷ (b ∷ (c ∷ l))) e = absurd (omega arith)

pub four_number : (l : List ℕ) → length l ≡ 4 → from_be_bytes w32 l ≡ big_endian 0 l
unfolding big_endian
four_number [] e = absurd (omega arith)
four_number (a ∷ []) e = absurd (omega arith)
four_number (a ∷ (b ∷ [])) e = absurd (omega arith)
four_number (a ∷ (b ∷ (c ∷ []))) e = absurd (omega arith)
four_number (a ∷ (b ∷ (c ∷ (d ∷ [])))) e = omega arith
four_number (a ∷ (b ∷ (c ∷ (d ∷ (x ∷ l))))) e = absurd (omega arith)

-- as it reads the first bytes of `&s[p..]`
module _ (s l : List ℕ) (p : ℕ) where
  there : (n : ℕ) → p + n ≤ length s → IsFirstChunk (take (length s - p) (drop p s)) l n
      → (length l ≡ n) × (l ≡ take n (drop p s))
  there n h c =
      let e : l ≡ take n (drop p s) = c.same ∙ ap (take n) (take_rest s p) in
      (ap length e ∙ simp (length-take, length-drop) (omega arith), e)

  pub two_there : p + 2 ≤ length s → IsFirstChunk (take (length s - p) (drop p s)) l 2
      → from_be_bytes w16 l ≡ big_endian 0 (take 2 (drop p s))
  two_there h c = let k = there 2 h c in two_number l k.0 ∙ ap (big_endian 0) k.1

  pub four_there : p + 4 ≤ length s → IsFirstChunk (take (length s - p) (drop p s)) l 4
      → from_be_bytes w32 l ≡ big_endian 0 (take 4 (drop p s))
  four_there h c = let k = there 4 h c in four_number l k.0 ∙ ap (big_endian 0) k.1

-- ---- stores

-- bytes stored one behind the other
pub sets_append : (t : List ℕ) (i n : ℕ) (s u : List ℕ) → n ≡ i + length s → sets (sets t i s) n u ≡ sets t i (s ++ u)
sets_append t i n [] u e = ap (λ (k : ℕ). sets t k u) (omega arith)
sets_append t i n (a ∷ s) u e = sets_append (set t i a) (suc i) n s u (omega arith)

-- bytes copied into a part of a list
pub part_sets : (t l : List ℕ) (i k : ℕ) → k ≡ length l → i + length l ≤ length t → put_mid i k t l ≡ sets t i l
part_sets t l i k e h =
    ap (λ (r : List ℕ). take i t ++ (l ++ r)) (ap (λ (n : ℕ). drop n (drop i t)) e ∙ drop-drop (length l) i t)
    ∙ sym (append_assoc (take i t) l (drop (i + length l) t)) ∙ sym (sets-eq l t i h)

-- ---- the bytes of a list

pub length_all : (l : List ℕ) → length (all_bytes l) ≡ 4 * length l
unfolding all_bytes four_bytes
length_all [] = refl
length_all (v ∷ l) = let e = length_all l in omega arith

pub all_append : (l m : List ℕ) → all_bytes (l ++ m) ≡ all_bytes l ++ all_bytes m
unfolding all_bytes
all_append [] m = refl
all_append (v ∷ l) m = ap (λ (x : List ℕ). four_bytes v ++ x) (all_append l m)
    ∙ sym (append_assoc (four_bytes v) (all_bytes l) (all_bytes m))
