-- What a stretch that moves leaves: r elements from outside, whichever
-- they are, have their place in front of the tail. Assumes nothing.
use mathlib.Core.List.{List, [], ◌∷◌, ◌++◌, append_assoc}
use mathlib.Core.Logic.{⊎_elim}
use mathlib.Core.Path.{◌≡◌, ◌∙◌, ap, sym, refl}
use Prim.Native.Nat.{ℕ, ◌<◌, ◌≤◌, ◌+◌, ◌-◌}
use native.Mathlib.Nat.{add_comm, suc-ne-zero}
use native.Mathlib.Omega.{arith}
use lib.ListN.{length, take, drop, length-append, length-take, length-drop}
use Rattle.copies.specs.Overlap.{OneOverlap}
use Rattle.holes.specs.Holes.{replaced, RoomMade}
use Rattle.rules.proofs.Places.{wrap, place-low, place-place}
use Rattle.rules.proofs.Ring.{write-write, length-read, write-append, write-behind, read-write, write_read}
use Rattle.rules.proofs.Slots.{lay_none, list_of_take, list_of_drop, length-lay, lay-own, length_list_of}
use Rattle.rules.proofs.Choices.{lt_or_ge}
use Rattle.rules.specs.Places.{place}
use Rattle.rules.specs.Refusals.{most_slots}
use Rattle.rules.specs.Slots.{lay, list_of, read, copied, write}

-- two stretches of n elements, from the positions i and j on, overlap at one end at most
overlap_on : (c h i j n : ℕ) → h < c → i ≤ j → j + n ≤ c → OneOverlap c (place c h i) (place c h j) n
unfolding OneOverlap
overlap_on c h i j n hh le fits = omega (arith, wrap c (h + i) (omega arith), wrap c (h + j) (omega arith))

overlap_sym : (c p q n : ℕ) → OneOverlap c p q n → OneOverlap c q p n
unfolding OneOverlap
overlap_sym c p q n o = rw (add_comm (q - p) (p - q)) o

one_overlap : (c h i j n : ℕ) → h < c → i + n ≤ c → j + n ≤ c → OneOverlap c (place c h i) (place c h j) n
one_overlap c h i j n hh fits fits' = ⊎_elim
    (λ (lt : i < j). overlap_on c h i j n hh (omega arith) fits')
    (λ (ge : j ≤ i). overlap_sym c _ _ n (overlap_on c h j i n hh ge fits)) (lt_or_ge i j)

-- so that `wrap_copy` can take the one to the other
pub can_move : (c h i j n p q : ℕ) → h < c → i + n ≤ c → j + n ≤ c → c ≤ most_slots → p ≡ place c h i → q ≡ place c h j
    → ((p < c) × (q < c) × (n ≤ c) × (c ≤ most_slots)) × OneOverlap c p q n
can_move c h i j n p q hh fits fits' few at_p at-q =
    rw (at_p, at-q) (
      (place-low c h hh i (omega arith), place-low c h hh j (omega arith), omega arith, few),
      one_overlap c h i j n hh fits fits',
    )

-- where nothing is laid, nothing is written
pub lay_short : (b : List ℕ) (h : ℕ) (l : List ℕ) → length l ≡ 0 → lay b h l ≡ b
lay_short b h [] z = lay_none b h
lay_short b h (x ∷ l) z = absurd (suc-ne-zero _ z)

module _ (b : List ℕ) (h s d t : ℕ) (hh : h < length b) (fits : s + d + t ≤ length b) where
  -- the first s of the list, and the last t, stand where they stood
  parts : (vs : List ℕ) → replaced (list_of b h (s + d + t)) s d vs
      ≡ list_of b h s ++ (vs ++ list_of b (place (length b) h (s + d)) t)
  parts vs =
      let l = list_of b h (s + d + t) in
      let left : s + d + t - (s + d) ≡ t = omega arith in
      let first : take s l ≡ list_of b h s = list_of_take b h hh s (s + d + t) (omega arith) fits in
      let last : drop (s + d) l ≡ list_of b (place (length b) h (s + d)) t =
      list_of_drop b h hh (s + d) (s + d + t) (omega arith) fits
      ∙ ap (read (length b) b (place (length b) h (s + d))) left in
      λ i. first i ++ (vs ++ last i)

  -- the tail moves to where r elements are in front of it
  pub tail-moved : (r : ℕ) → s + r + t ≤ length b
      → RoomMade b (copied b (place (length b) h (s + d)) (place (length b) h (s + r)) t) h h s d r t
  tail-moved r room = record {
    long = length-lay b _ _;
    laid = λ vs many.
        let cap = length b in
        let tail = read cap b (place cap h (s + d)) t in
        let p = place cap h s in
        let p_in : p < cap = place-low cap h hh s (omega arith) in
        let next : place cap p r ≡ place cap h (s + r) = place-place cap h hh s r (omega arith) in
        ap (λ (n : ℕ). write n (write cap b (place cap h (s + r)) tail) p vs) (length-lay b _ _)
        ∙ ap (λ (q : ℕ). write cap (write cap b q tail) p vs) (sym next)
        ∙ sym (write-write cap b p vs r tail p_in (omega arith)
        (omega (arith, length-read cap b (place cap h (s + d)) t)))
        ∙ ap (λ (n : ℕ). write cap (write cap b p vs) (place cap p n) tail) (sym many)
        ∙ sym (write-append cap b p vs tail p_in (omega arith))
        ∙ sym (write-behind cap b h s (vs ++ tail) hh (omega arith))
        ∙ ap (write cap b h) (sym (parts vs));
  }

  -- the first s elements move on by k, to where r elements are between them and the tail
  pub head-moved : (r k : ℕ) → d ≡ k + r
      → RoomMade b (copied b h (place (length b) h k) s) h (place (length b) h k) s d r t
  head-moved r k hole = record {
    long = length-lay b _ _;
    laid = λ vs many.
        let cap = length b in
        let g = place cap h k in
        let g_in : g < cap = place-low cap h hh k (omega arith) in
        let first = read cap b h s in
        let tail = read cap b (place cap h (s + d)) t in
        let b1 = write cap b g (first ++ vs) in
        let long_first : length first ≡ s = length-read cap b h s in
        let long_both : length (first ++ vs) ≡ s + r = length-append first vs ∙ omega arith in
        let same : place cap g (s + r) ≡ place cap h (s + d) =
        place-place cap h hh k (s + r) (omega arith) ∙ ap (place cap h) (omega arith) in
        let stays : read cap b1 (place cap g (s + r)) t ≡ tail =
        read-write cap b g (first ++ vs) (s + r) t g_in (omega arith) (omega arith)
        ∙ ap (λ (q : ℕ). read cap b q t) same in
        ap (λ (n : ℕ). write n (write cap b g first) (place cap g s) vs) (length-lay b _ _)
        ∙ ap (λ (n : ℕ). write cap (write cap b g first) (place cap g n) vs) (sym long_first)
        ∙ sym (write-append cap b g first vs g_in (omega arith))
        ∙ sym (write_read cap b1 (place cap g (s + r)) t)
        ∙ ap (write cap b1 (place cap g (s + r))) stays
        ∙ ap (λ (n : ℕ). write cap b1 (place cap g n) tail) (sym long_both)
        ∙ sym (write-append cap b g (first ++ vs) tail g_in (omega arith))
        ∙ ap (write cap b g) (append_assoc first vs tail ∙ sym (parts vs));
  }

-- no element moves: r elements replace as many
pub none_moved : (b : List ℕ) (h s r t : ℕ) → h ≤ length b - 1 → s + r + t ≤ length b → RoomMade b b h h s r r t
none_moved b h s r t good fits = record {
  long = refl;
  laid = λ vs many. ⊎_elim
      (λ hh. let p = place (length b) h (s + r) in rw (lay-own b p t) at
      ((tail-moved b h s r t hh fits r fits).laid vs many))
      (λ (no_slot : length b ≤ h).
      let l = list_of b h (s + r + t) in
      let short : length (replaced l s r vs) ≡ 0 =
      simp (length-append, length-take, length-drop, length_list_of) (omega arith) in
      lay_short b _ vs (omega arith) ∙ sym (lay_short b h _ short))
      (lt_or_ge h (length b));
}
