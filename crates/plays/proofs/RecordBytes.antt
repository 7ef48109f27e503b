-- The layout of a record: its length, its operation and operands,
-- and one law for each return of `record_at`. Assumes nothing.
use mathlib.Core.Bool.{true, false}
use mathlib.Core.List.{List}
use mathlib.Core.Logic.{◌≢◌}
use mathlib.Core.Path.{◌≡◌}
use Prim.Native.Nat.{ℕ, ◌+◌, ◌-◌, ◌≤◌, ◌<◌}
use native.Mathlib.Omega.{arith}
use borrow.Author.Tests.{ne_eqb, eq-eqb, le-ltb}
use lib.Dec.{eqb}
use Rattle.std.proofs.lemmas.Bool.Decides.{nat_tests}
use lib.ListN.{length, take, drop, get_or}
use Rattle.rules.specs.Images.{big_endian}
use Rattle.rules.specs.Journals.{Entry, entry_of, length_of, some_length, length_at, word_at, record_at, taken, broken, ended}
use Rattle.rules.specs.Choices.{whether}

-- ---- the length of an operation's record

-- without operands: 3 or 4
pub other_none : (o : ℕ) → length_of o ≡ 2 → o ≢ 3 → o ≡ 4
unfolding length_of whether
other_none o e ne = grind (arith, nat_tests)

-- a length that some operation has, and neither of the shorter two
pub the_longest : (n : ℕ) → some_length n ≡ true → n ≢ 2 → n ≢ 6 → n ≡ 10
unfolding some_length
the_longest n e n2 n6 = grind (arith, nat_tests)

-- ---- the returns of `record_at`: s are the bytes, p the position

module _ (s : List ℕ) (p : ℕ) where
  pub at_end : length s ≤ p → ended ≡ record_at s p
  unfolding record_at whether
  at_end le = let none : length s - p ≡ 0 = omega arith in rw none

  module _ (some : p < length s) where
    some_left : eqb (length s - p) 0 ≡ false
    some_left = ne_eqb (length s - p) 0 (λ e. omega arith)

    module _ (two : 2 ≤ length s - p) (n : ℕ) (at_n : n ≡ big_endian 0 (take 2 (drop p s))) where
      pub wrong_length : some_length n ≡ false → broken ≡ record_at s p
      unfolding record_at whether length_at
      wrong_length e = rw (some_left, le-ltb (length s - p) 2 two, ← at_n, e)

      module _ (known : some_length n ≡ true) where
        module _ (three : 3 ≤ length s - p) where
          pub wrong_version : get_or s (p + 2) 0 ≢ 1 → broken ≡ record_at s p
          unfolding record_at whether length_at
          wrong_version ne = rw (
            some_left,
            le-ltb (length s - p) 2 two,
            ← at_n,
            known,
            le-ltb (length s - p) 3 three,
            ne_eqb (get_or s (p + 2) 0) 1 ne,
          )

          module _ (right : get_or s (p + 2) 0 ≡ 1) where
            module _ (four : 4 ≤ length s - p) (m : ℕ) (at-m : m ≡ length_of (get_or s (p + 3) 0)) where
              pub wrong_operation : n ≢ m → broken ≡ record_at s p
              unfolding record_at whether length_at
              wrong_operation ne = rw (
                some_left,
                le-ltb (length s - p) 2 two,
                ← at_n,
                known,
                le-ltb (length s - p) 3 three,
                right,
                le-ltb (length s - p) 4 four,
                ← at-m,
                ne_eqb n m ne,
              )

              module _ (same : n ≡ m) where
                pub takes : (e : Entry) (q : ℕ) → 2 + n ≤ length s - p
                    → e ≡ entry_of (get_or s (p + 3) 0) (word_at s (p + 4)) (word_at s (p + 8)) → q ≡ p + (2 + n)
                    → taken e q ≡ record_at s p
                unfolding record_at whether length_at
                takes e q all at_e at-q =
                    rw (
                      some_left,
                      le-ltb (length s - p) 2 two,
                      ← at_n,
                      known,
                      le-ltb (length s - p) 3 three,
                      right,
                      le-ltb (length s - p) 4 four,
                      ← at-m,
                      eq-eqb n m same,
                      le-ltb (length s - p) (2 + n) all,
                      at_e,
                      at-q,
                    )
