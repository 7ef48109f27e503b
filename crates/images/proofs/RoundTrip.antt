-- An image and its list are one for one: what was written is read back,
-- and every other byte string is refused with 5. Assumes nothing.
use mathlib.Core.Bool.{true, and-eq-true_iff, Bool, false}
use mathlib.Core.List.{List, ◌∷◌, [], ◌++◌}
use mathlib.Core.Path.{◌≡◌, ◌∙◌, refl, ap, sym}
use Prim.Native.Nat.{ℕ, ◌<◌, suc, suc-le-suc, ◌*◌, ◌+◌, ◌≤◌, zero}
use native.Mathlib.Omega.{arith}
use borrow.Author.Tests.{eq-eqb, le-leb, eqb-true, leb-true}
use lib.Dec.{eqb}
use lib.ListN.{length, get_or, take, drop, length-drop}
use lib.Seq.{get_or-drop}
use Rattle.std.proofs.lemmas.Nat.{from_be_bytes-to_be_bytes_2, from_be_bytes-to_be_bytes_4, be_bytes_2, be_bytes_4}
use Rattle.std.proofs.lemmas.List.{get_or-take, length-take-le, take-append-drop}
use Rattle.images.proofs.Bytes.{two_number, four_number}
use Rattle.images.proofs.Reading.{length-fours}
use Rattle.images.proofs.Writing.{length-image}
use Rattle.rules.proofs.Images.{length-elements}
use Rattle.rules.proofs.Refusals.{slots_asks, some_room}
use Rattle.rules.specs.Images.{most_short, big_endian, two_bytes, four_bytes, how_many, image_of, bytes_after, version, all_bytes, laid_out, fours, elements_in}
use Rattle.rules.specs.Makes.{read_image, made_with, none_made}
use Rattle.rules.specs.Refusals.{most_slots, on_layout, on_slots, room}
use Rattle.rules.specs.Choices.{ask, unless}

-- every number of the list is below k
abbrev pub EachBelow : ℕ → List ℕ → Type 0
EachBelow k l = (i : ℕ) → i < length l → get_or l i 0 < k

abbrev pub byte_limit : ℕ
byte_limit = 256

abbrev pub element_limit : ℕ
element_limit = 4294967296

first_below : (k v : ℕ) (l : List ℕ) → EachBelow k (v ∷ l) → v < k
first_below k v l u = u 0 (omega arith)

rest_below : (k v : ℕ) (l : List ℕ) → EachBelow k (v ∷ l) → EachBelow k l
rest_below k v l u i lt = u (suc i) (suc-le-suc lt)

-- ---- bytes of a number, and the number of bytes

two_back : (n : ℕ) → n < 65536 → big_endian 0 (two_bytes n) ≡ n
unfolding two_bytes
two_back n lt = sym (two_number (two_bytes n) refl) ∙ from_be_bytes-to_be_bytes_2 n lt

four_back : (v : ℕ) → v < element_limit → big_endian 0 (four_bytes v) ≡ v
unfolding four_bytes
four_back v lt = sym (four_number (four_bytes v) refl) ∙ from_be_bytes-to_be_bytes_4 v lt

-- past the end too, where std reads 0
byte_at : (l : List ℕ) → EachBelow byte_limit l → (i : ℕ) → get_or l i 0 < byte_limit
byte_at [] u i = omega arith
byte_at (x ∷ l) u zero = u 0 (omega arith)
byte_at (x ∷ l) u (suc i) = byte_at l (rest_below byte_limit x l u) i

two_of : (l : List ℕ) → length l ≡ 2 → EachBelow byte_limit l → two_bytes (big_endian 0 l) ≡ l
unfolding two_bytes
two_of l e u = be_bytes_2 l (big_endian 0 l) e (byte_at l u) (sym (two_number l e))

four_of : (l : List ℕ) → length l ≡ 4 → EachBelow byte_limit l → four_bytes (big_endian 0 l) ≡ l
unfolding four_bytes
four_of l e u = be_bytes_4 l (big_endian 0 l) e (byte_at l u) (sym (four_number l e))

four_below : (l : List ℕ) → length l ≡ 4 → EachBelow byte_limit l → big_endian 0 l < element_limit
four_below l e u =
    let b = byte_at l u in
    rw (← four_number l e) (omega (arith, b 0, b 1, b 2, b 3))

-- ---- what was written is read

many-image : (l : List ℕ) → how_many (image_of l) ≡ length l
unfolding how_many
many-image l = omega (arith, length-image l)

front-image : (l : List ℕ) → take 2 (image_of l) ≡ two_bytes (bytes_after (length l))
unfolding image_of two_bytes
front-image l = refl

version-image : (l : List ℕ) → get_or (image_of l) 2 0 ≡ version
unfolding image_of two_bytes
version-image l = refl

behind-image : (l : List ℕ) → drop 3 (image_of l) ≡ all_bytes l
unfolding image_of two_bytes
behind-image l = refl

-- an image keeps the layout
pub image-laid_out : (l : List ℕ) → length l ≤ most_short → laid_out (image_of l) ≡ true
unfolding laid_out
image-laid_out l few =
    let size : length (image_of l) ≡ 2 + bytes_after (length l) = omega (arith, length-image l) in
    let count : big_endian 0 (take 2 (image_of l)) ≡ bytes_after (length l) =
    ap (big_endian 0) (front-image l) ∙ two_back (bytes_after (length l)) (omega arith) in
    rw (many-image l, eq-eqb _ _ size, eq-eqb _ _ count, version-image l, le-leb (length l) most_short few)

-- the elements of an image are the list
fours_all : (l : List ℕ) → EachBelow element_limit l → fours (length l) (all_bytes l) ≡ l
unfolding fours all_bytes four_bytes
fours_all [] u = refl
fours_all (v ∷ l) u =
    let first : big_endian 0 (four_bytes v) ≡ v = four_back v (first_below element_limit v l u) in
    let rest : fours (length l) (all_bytes l) ≡ l = fours_all l (rest_below element_limit v l u) in
    λ i. first i ∷ rest i

pub image-elements : (l : List ℕ) → EachBelow element_limit l → elements_in (image_of l) ≡ l
unfolding elements_in
image-elements l u = ap (λ (n : ℕ). fours n (drop 3 (image_of l))) (many-image l)
    ∙ ap (fours (length l)) (behind-image l) ∙ fours_all l u

-- ---- what is accepted is the image of its list

-- a number's four bytes come off the front
module _ (n : ℕ) (s : List ℕ) (e : length s ≡ 4 * suc n) (u : EachBelow byte_limit s) where
  front_long : length (take 4 s) ≡ 4
  front_long = length-take-le 4 s (omega arith)

  front_below : EachBelow byte_limit (take 4 s)
  front_below i lt = rw (get_or-take 4 s i 0 (omega (arith, front_long))) (u i (omega (arith, front_long)))

  behind_long : length (drop 4 s) ≡ 4 * n
  behind_long = omega (arith, length-drop 4 s)

  behind_below : EachBelow byte_limit (drop 4 s)
  behind_below i lt = rw (get_or-drop 4 s i 0) (u (4 + i) (omega (arith, behind_long)))

all_fours : (n : ℕ) (s : List ℕ) → length s ≡ 4 * n → EachBelow byte_limit s → all_bytes (fours n s) ≡ s
unfolding all_bytes fours
all_fours zero [] e u = refl
all_fours zero (a ∷ s) e u = absurd (omega arith)
all_fours (suc n) s e u =
    let word = four_of (take 4 s) (front_long n s e u) (front_below n s e u) in
    let rest = all_fours n (drop 4 s) (behind_long n s e u) (behind_below n s e u) in
    (λ i. word i ++ rest i) ∙ take-append-drop 4 s

fours-below : (n : ℕ) (s : List ℕ) → length s ≡ 4 * n → EachBelow byte_limit s → EachBelow element_limit (fours n s)
unfolding fours
fours-below zero s e u i lt = absurd (omega arith)
fours-below (suc n) s e u zero lt = four_below (take 4 s) (front_long n s e u) (front_below n s e u)
fours-below (suc n) s e u (suc i) lt =
    fours-below n (drop 4 s) (behind_long n s e u) (behind_below n s e u) i (omega arith)

-- what the layout says, part by part
record Laid (s : List ℕ) : Type 0 where
  size : length s ≡ 3 + 4 * how_many s
  count : big_endian 0 (take 2 s) ≡ bytes_after (how_many s)
  versioned : get_or s 2 0 ≡ version
  few : how_many s ≤ most_short

laid : (s : List ℕ) → laid_out s ≡ true → Laid s
unfolding laid_out
laid s e =
    let p = (and-eq-true_iff (eqb (length s) (2 + bytes_after (how_many s))) _).0 e in
    let q = (and-eq-true_iff (eqb (big_endian 0 (take 2 s)) (bytes_after (how_many s))) _).0 p.1 in
    let r = (and-eq-true_iff (eqb (get_or s 2 0) version) _).0 q.1 in
    let all = eqb-true (length s) (2 + bytes_after (how_many s)) p.0 in
    record {
      size = omega arith;
      count = eqb-true _ _ q.0;
      versioned = eqb-true _ _ r.0;
      few = leb-true _ _ r.1;
    }

elements-below : (s : List ℕ) → EachBelow byte_limit s → Laid s → EachBelow element_limit (elements_in s)
unfolding elements_in
elements-below s u k = fours-below (how_many s) (drop 3 s) (omega (arith, k.size, length-drop 3 s))
    (λ i lt. rw (get_or-drop 3 s i 0) (u (3 + i) (omega (arith, length-drop 3 s))))

front_two : (a b : ℕ) (s : List ℕ) → EachBelow byte_limit (a ∷ b ∷ s) → EachBelow byte_limit (a ∷ b ∷ [])
front_two a b s u zero lt = u 0 (omega arith)
front_two a b s u (suc zero) lt = u 1 (omega arith)
front_two a b s u (suc (suc i)) lt = absurd (omega arith)

whole : (s : List ℕ) → EachBelow byte_limit s → Laid s → image_of (elements_in s) ≡ s
unfolding image_of elements_in
whole [] u k = absurd (omega (arith, k.size))
whole (a ∷ []) u k = absurd (omega (arith, k.size))
whole (a ∷ (b ∷ [])) u k = absurd (omega (arith, k.size))
whole (a ∷ (b ∷ (v ∷ s))) u k =
    let t = a ∷ (b ∷ (v ∷ s)) in
    let n = how_many t in
    let many : length (fours n s) ≡ n = length-fours n s in
    let count : bytes_after (length (fours n s)) ≡ big_endian 0 (a ∷ b ∷ []) = ap bytes_after many ∙ sym k.count in
    let two : two_bytes (bytes_after (length (fours n s))) ≡ a ∷ b ∷ [] =
    ap two_bytes count ∙ two_of (a ∷ b ∷ []) refl (front_two a b (v ∷ s) u) in
    let rest : all_bytes (fours n s) ≡ s =
    all_fours n s (omega (arith, k.size)) (λ i lt. u (suc (suc (suc i))) (omega arith)) in
    λ i. two i ++ sym k.versioned i ∷ rest i

-- bytes that keep the layout are the image of their elements, byte for byte
pub accepted-image : (s : List ℕ) → EachBelow byte_limit s → laid_out s ≡ true → image_of (elements_in s) ≡ s
accepted-image s u e = whole s u (laid s e)

-- ---- in `read_image`'s words

-- the image of a list is read as that list
pub image-read : (b l : List ℕ) → length b ≤ most_slots → length l ≤ length b → EachBelow element_limit l
    → read_image b (image_of l) ≡ made_with b l
unfolding read_image on_layout ask unless
image-read b l few fits u =
    let none : on_slots (length b) (on_layout (laid_out (image_of l)) (room (length b) (how_many (image_of l)))) ≡ 0 =
    slots_asks (length b) _ few ∙ rw (image-laid_out l (omega arith), many-image l)
    (some_room (length b) (length l) fits) in
    rw (none, image-elements l u)

-- bytes that are no list's image are refused with 5
pub others_refused : (b s : List ℕ) → length b ≤ most_slots → EachBelow byte_limit s
    → ((l : List ℕ) → length l ≤ most_short → EachBelow element_limit l → image_of l ≡ s → ⊥)
    → read_image b s ≡ none_made b 5
unfolding read_image on_layout ask unless
others_refused b s few u no-image =
    rw (slots_asks (length b) (on_layout (laid_out s) (room (length b) (how_many s))) few, broken (laid_out s) refl)
  where
    broken : (t : Bool) → laid_out s ≡ t → laid_out s ≡ false
    broken false e = e
    broken true e = absurd (no-image (elements_in s) (omega (arith, length-elements s, (laid s e).few))
        (elements-below s u (laid s e)) (accepted-image s u e))
