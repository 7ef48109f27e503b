-- What a record of a journal is, is told by its own bytes: where it ends, that more bytes behind
-- it change nothing, and that it does not matter how many stand before it. Assumes nothing.
use mathlib.Core.Bool.{true, false}
use mathlib.Core.List.{List, ◌++◌}
use mathlib.Core.Path.{◌≡◌, refl, sym, ◌∙◌, ap, subst}
use Prim.Native.Nat.{ℕ, ◌+◌, ◌-◌, ◌≤◌, ◌<◌}
use native.Mathlib.Omega.{arith}
use borrow.Author.Tests.{ne_eqb}
use lib.Dec.{eqb, ltb, eqb→eq, nltb→le}
use lib.ListN.{length, take, drop, get_or, length-append, length-drop, get_or-append}
use lib.Seq.{take-append-le, drop-append-le, drop-drop, get_or-drop}
use Rattle.plays.proofs.RecordBytes.{other_none, the_longest, wrong_length, wrong_version, wrong_operation, takes}
use Rattle.rules.proofs.Choices.{by_test, by-test₂, cases, neqb→ne, is_true, is_false}
use Rattle.rules.specs.Choices.{whether}
use Rattle.rules.specs.Images.{big_endian, version}
use Rattle.rules.specs.Journals.{Entry, Got, taken, broken, cut, ended, entry_of, length_of, length_at, some_length, word_at, record_at}

-- ---- where a record ends

-- a record that is taken at position p of n bytes has at least four, and ends within them
abbrev pub Ends : ℕ → ℕ → Got → Type 0
Ends p n (taken e q) = (p + 4 ≤ q) × (q ≤ n)
Ends p n broken = Unit
Ends p n cut = Unit
Ends p n ended = Unit

some_long : (n : ℕ) → some_length n ≡ true → 2 ≤ n
some_long n e =
    cases (eqb n 2) (λ t. omega (arith, eqb→eq n 2 t))
    (λ t. cases (eqb n 6) (λ u. omega (arith, eqb→eq n 6 u))
    (λ u. omega (arith, the_longest n e (neqb→ne n 2 t) (neqb→ne n 6 u))))

-- the tests of a record, one after the other: k bytes are left, n is the length that they say, v the
-- version, o the operation and x and y its operands; q is the position behind
abbrev tests : ℕ → ℕ → ℕ → ℕ → ℕ → ℕ → ℕ → Got
tests k n v o x y q =
    whether (eqb k 0) ended
    (whether (ltb k 2) cut (whether (some_length n)
    (whether (ltb k 3) cut (whether (eqb v version)
    (whether (ltb k 4) cut (whether (eqb n (length_of o))
    (whether (ltb k (2 + n)) cut (taken (entry_of o x y) q))
    broken)) broken)) broken))

tested : (s : List ℕ) (p : ℕ) → record_at s p
    ≡ tests (length s - p) (length_at s p) (get_or s (p + 2) 0) (get_or s (p + 3) 0) (word_at s (p + 4)) (word_at s (p + 8))
    (p + (2 + length_at s p))
unfolding record_at
tested s p = refl

pub record_ends : (s : List ℕ) (p : ℕ) → Ends p (length s) (record_at s p)
unfolding record_at
record_ends s p =
    let P : Got → Type 0 = Ends p (length s) in
    let n = length_at s p in
    by_test (eqb (length s - p) 0) P (λ t. tt)
    (λ t. by_test (ltb (length s - p) 2) P (λ t. tt)
    (λ t. by_test (some_length n) P
    (λ known. by_test (ltb (length s - p) 3) P (λ t. tt)
    (λ t. by_test (eqb (get_or s (p + 2) 0) version) P
    (λ t. by_test (ltb (length s - p) 4) P (λ t. tt)
    (λ t. by_test (eqb n (length_of (get_or s (p + 3) 0))) P
    (λ t. by_test (ltb (length s - p) (2 + n)) P (λ t. tt)
    (λ all. within n (some_long n (is_true (some_length n) known)) (nltb→le (length s - p) (2 + n) all)))
    (λ t. tt))) (λ t. tt))) (λ t. tt)))
  where
    within : (n : ℕ) → 2 ≤ n → 2 + n ≤ length s - p → (p + 4 ≤ p + (2 + n)) × (p + (2 + n) ≤ length s)
    within n long all = (omega arith, omega arith)

-- a record that was taken
pub taken_ends : (s : List ℕ) (p : ℕ) (e : Entry) (q : ℕ) → taken e q ≡ record_at s p → (p + 4 ≤ q) × (q ≤ length s)
taken_ends s p e q h = subst (Ends p (length s)) (sym h) (record_ends s p)

-- ---- more bytes behind it

-- what is taken or broken stays so, whatever comes; what is cut or ended may be otherwise
abbrev pub Settles : Got → Got → Type 0
Settles (taken e q) g = taken e q ≡ g
Settles broken g = broken ≡ g
Settles cut g = Unit
Settles ended g = Unit

-- what an operation does not take does not show
no_operand : (o x y x' y' : ℕ) → length_of o ≡ 2 → entry_of o x y ≡ entry_of o x' y'
unfolding entry_of whether
no_operand o x y x' y' e =
    cases (eqb o 3) (λ t. at 3 (eqb→eq o 3 t) refl) (λ t. at 4 (other_none o e (neqb→ne o 3 t)) refl)
  where
    at : (k : ℕ) → o ≡ k → entry_of k x y ≡ entry_of k x' y' → entry_of o x y ≡ entry_of o x' y'
    at k is h = subst (λ (j : ℕ). entry_of j x y ≡ entry_of j x' y') (sym is) h

no_second : (o x y y' : ℕ) → length_of o ≡ 6 → entry_of o x y ≡ entry_of o x y'
unfolding entry_of whether length_of
no_second o x y y' e =
    let other : (k : ℕ) → length_of k ≡ 10 → eqb o k ≡ false =
    λ k at-k. ne_eqb o k (λ f. absurd (ten (sym at-k ∙ ap length_of (sym f) ∙ e))) in
    rw (other 5 refl, other 8 refl)
  where
    ten : ◌≡◌ {A = ℕ} 10 6 → ⊥
    ten h = omega arith

module _ (s t : List ℕ) (p : ℕ) where
  -- what stands in the bytes stands there still
  same-part : (i n : ℕ) → i + n ≤ length s → take n (drop i (s ++ t)) ≡ take n (drop i s)
  same-part i n le =
      ap (take n) (drop-append-le i s t (omega arith)) ∙ take-append-le n (drop i s) t (long le)
    where
      long : i + n ≤ length s → n ≤ length (drop i s)
      long le = omega (arith, length-drop i s)

  same_word : (i : ℕ) → i + 4 ≤ length s → word_at s i ≡ word_at (s ++ t) i
  unfolding word_at
  same_word i le = ap (big_endian 0) (sym (same-part i 4 le))

  same_length : p + 2 ≤ length s → length_at s p ≡ big_endian 0 (take 2 (drop p (s ++ t)))
  unfolding length_at
  same_length le = ap (big_endian 0) (sym (same-part p 2 le))

  same_byte : (i : ℕ) → i < length s → get_or (s ++ t) i 0 ≡ get_or s i 0
  same_byte i lt = get_or-append s t 0 i lt

  -- the operands of a record of length n that has its bytes
  same_entry : (n o : ℕ) → n ≡ length_of o → some_length n ≡ true → p + (2 + n) ≤ length s
      → entry_of o (word_at s (p + 4)) (word_at s (p + 8)) ≡ entry_of o (word_at (s ++ t) (p + 4)) (word_at (s ++ t) (p + 8))
  same_entry n o e known le =
      cases (eqb n 2) (λ two. no_operand o _ _ _ _ (sym e ∙ eqb→eq n 2 two))
      (λ not-two. cases (eqb n 6)
      (λ six. let is = eqb→eq n 6 six in
      no_second o _ _ (word_at (s ++ t) (p + 8)) (sym e ∙ is)
      ∙ ap (λ (x : ℕ). entry_of o x (word_at (s ++ t) (p + 8))) (same_word (p + 4) (omega arith)))
      (λ not-six. let is = the_longest n known (neqb→ne n 2 not-two) (neqb→ne n 6 not-six) in
      λ i. entry_of o (same_word (p + 4) (omega arith) i) (same_word (p + 8) (omega arith) i)))

  -- as many bytes are left as were, or more
  left : (j : ℕ) → j ≤ length s - p → j ≤ length (s ++ t) - p
  left j le = omega (arith, length-append s t)

  some : 2 ≤ length s - p → p < length (s ++ t)
  some two = omega (arith, length-append s t)

  pub settles : Settles (record_at s p) (record_at (s ++ t) p)
  unfolding record_at
  settles =
      let P : Got → Type 0 = λ g. Settles g (record_at (s ++ t) p) in
      let k = length s - p in
      let n = length_at s p in
      let v = get_or s (p + 2) 0 in
      let o = get_or s (p + 3) 0 in
      by_test (eqb k 0) P (λ z. tt)
      (λ z. by_test (ltb k 2) P (λ z. tt)
      (λ z. let two = nltb→le k 2 z in
      let at_n = same_length (omega arith) in
      by_test (some_length n) P
      (λ known. let is_Known = is_true (some_length n) known in
      by_test (ltb k 3) P (λ z. tt)
      (λ z. let three = nltb→le k 3 z in
      let at-v = same_byte (p + 2) (omega arith) in
      by_test (eqb v version) P
      (λ right. let is_right = at-v ∙ eqb→eq v version right in
      by_test (ltb k 4) P (λ z. tt)
      (λ z. let four = nltb→le k 4 z in
      let at-o = ap length_of (sym (same_byte (p + 3) (omega arith))) in
      by_test (eqb n (length_of o)) P
      (λ same. let is = eqb→eq n (length_of o) same in
      by_test (ltb k (2 + n)) P (λ z. tt)
      (λ z. let all = nltb→le k (2 + n) z in
      takes (s ++ t) p (some two) (left 2 two) n at_n is_Known (left 3 three) is_right (left 4 four) (length_of o) at-o
      is (entry_of o (word_at s (p + 4)) (word_at s (p + 8))) (p + (2 + n)) (left (2 + n) all)
      (same_entry n o is is_Known (omega arith)
      ∙ ap (λ (j : ℕ). entry_of j (word_at (s ++ t) (p + 4)) (word_at (s ++ t) (p + 8)))
      (sym (same_byte (p + 3) (omega arith)))) refl))
      (λ other. wrong_operation (s ++ t) p (some two) (left 2 two) n at_n is_Known (left 3 three) is_right (left 4 four)
      (length_of o) at-o (neqb→ne n (length_of o) other))))
      (λ other. wrong_version (s ++ t) p (some two) (left 2 two) n at_n is_Known (left 3 three)
      (λ e. neqb→ne v version other (sym at-v ∙ e)))))
      (λ other. wrong_length (s ++ t) p (some two) (left 2 two) n at_n (is_false (some_length n) other))))

-- ---- any bytes before it

-- the same, u bytes later
abbrev pub later : ℕ → Got → Got
later u (taken e q) = taken e (u + q)
later u broken = broken
later u cut = cut
later u ended = ended

-- the position behind is the last thing that the tests come to
tests_later : (u k n v o x y q : ℕ) → tests k n v o x y (u + q) ≡ later u (tests k n v o x y q)
tests_later u k n v o x y q =
    let P : Got → Got → Type 0 = λ g h. g ≡ later u h in
    by-test₂ (eqb k 0) P (λ z. refl)
    (λ z. by-test₂ (ltb k 2) P (λ z. refl)
    (λ z. by-test₂ (some_length n) P
    (λ z. by-test₂ (ltb k 3) P (λ z. refl)
    (λ z. by-test₂ (eqb v version) P
    (λ z. by-test₂ (ltb k 4) P (λ z. refl)
    (λ z. by-test₂ (eqb n (length_of o)) P
    (λ z. by-test₂ (ltb k (2 + n)) P (λ z. refl) (λ z. refl))
    (λ z. refl))) (λ z. refl))) (λ z. refl)))

pub record_later : (s : List ℕ) (u p : ℕ) → record_at s (u + p) ≡ later u (record_at (drop u s) p)
unfolding length_at word_at
record_later s u p =
    tested s (u + p)
    ∙ (λ i. tests (left i) (long i) (byte 2 i) (byte 3 i) (word 4 i) (word 8 i) (behind i))
    ∙ tests_later u (length (drop u s) - p) (length_at (drop u s) p) (get_or (drop u s) (p + 2) 0)
    (get_or (drop u s) (p + 3) 0) (word_at (drop u s) (p + 4)) (word_at (drop u s) (p + 8)) (p + (2 + length_at (drop u s)
    p)) ∙ ap (later u) (sym (tested (drop u s) p))
  where
    left : length s - (u + p) ≡ length (drop u s) - p
    left = omega (arith, length-drop u s)

    later_still : (i : ℕ) → u + p + i ≡ u + (p + i)
    later_still i = omega arith

    part : (i : ℕ) → drop (u + p + i) s ≡ drop (p + i) (drop u s)
    part i = ap (λ (k : ℕ). drop k s) (later_still i) ∙ sym (drop-drop (p + i) u s)

    long : length_at s (u + p) ≡ length_at (drop u s) p
    long = ap (λ (l : List ℕ). big_endian 0 (take 2 l)) (sym (drop-drop p u s))

    byte : (i : ℕ) → get_or s (u + p + i) 0 ≡ get_or (drop u s) (p + i) 0
    byte i = ap (λ (k : ℕ). get_or s k 0) (later_still i) ∙ sym (get_or-drop u s (p + i) 0)

    word : (i : ℕ) → word_at s (u + p + i) ≡ word_at (drop u s) (p + i)
    word i = ap (λ (l : List ℕ). big_endian 0 (take 4 l)) (part i)

    behind : u + p + (2 + length_at s (u + p)) ≡ u + (p + (2 + length_at (drop u s) p))
    behind = omega (arith, long)
