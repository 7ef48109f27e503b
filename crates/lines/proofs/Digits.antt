-- Decimal digits: the last one behind those of a tenth. Assumes nothing.
use mathlib.Core.List.{List, [], ◌∷◌, ◌++◌}
use mathlib.Core.Logic.{⊎_elim}
use mathlib.Core.Path.{◌≡◌, refl, sym, ◌∙◌, ap}
use Prim.Native.Nat.{ℕ, ◌+◌, ◌*◌, ◌/◌, ◌%◌, ◌≤◌, ◌<◌, zero, suc}
use native.Mathlib.Omega.{arith}
use borrow.Author.Tests.{lt-ltb, le-ltb}
use lib.ListN.{length, set, length-append}
use Rattle.lines.proofs.Puts.{puts_one, puts_more, puts_as}
use Rattle.lines.specs.Puts.{Puts}
use Rattle.rules.proofs.Choices.{lt_or_ge}
use Rattle.rules.specs.Replays.{digits_of, decimal}
use Rattle.rules.specs.Choices.{whether}

-- enough digits are allowed for: how many does not show
enough : (j k n : ℕ) → n < j → n < k → digits_of j n ≡ digits_of k n
unfolding digits_of whether
enough zero k n a b = absurd (omega arith)
enough (suc j) zero n a b = absurd (omega arith)
enough (suc j) (suc k) n a b =
    ⊎_elim (λ lt. rw (lt-ltb n 10 lt)) (λ ge. rw (le-ltb n 10 ge, enough j k (n / 10) (omega arith) (omega arith)))
    (lt_or_ge n 10)

pub decimal_digit : (n : ℕ) → n < 10 → decimal n ≡ (48 + n) ∷ []
unfolding decimal digits_of whether
decimal_digit n lt = rw (lt-ltb n 10 lt)

pub decimal_more : (n : ℕ) → 10 ≤ n → decimal n ≡ decimal (n / 10) ++ (48 + n % 10) ∷ []
unfolding decimal digits_of whether
decimal_more n ge = rw (le-ltb n 10 ge)
    (ap (λ (l : List ℕ). l ++ (48 + n % 10) ∷ []) (enough n (suc (n / 10)) (n / 10) (omega arith) (omega arith)))

length_more : (n : ℕ) → 10 ≤ n → length (decimal n) ≡ length (decimal (n / 10)) + 1
length_more n ge = ap length (decimal_more n ge) ∙ length-append (decimal (n / 10)) ((48 + n % 10) ∷ [])

-- 10 times 10, k times
abbrev tens : ℕ → ℕ
tens zero = 1
tens (suc k) = 10 * tens k

-- a number below so many tens has no more digits
few_digits : (k n : ℕ) → n < tens (suc k) → length (decimal n) ≤ suc k
few_digits zero n lt = let e = ap length (decimal_digit n (omega arith)) in omega arith
few_digits (suc k) n lt =
    ⊎_elim (λ low. let e = ap length (decimal_digit n low) in omega arith)
    (λ ge. let e = length_more n ge in let h = few_digits k (n / 10) (omega arith) in omega arith) (lt_or_ge n 10)

pub twenty_digits : (n : ℕ) → n < 18446744073709551616 → length (decimal n) ≤ 20
twenty_digits n lt = few_digits 19 n (omega arith)

-- ---- the two returns of `put_digits`

pub puts_digit : (t : List ℕ) (p n : ℕ) → n < 10 → Puts t (set t p (48 + n)) p (p + 1) (decimal n)
puts_digit t p n lt = puts_as t p _ _ _ _ (sym (decimal_digit n lt)) (puts_one t p (48 + n) (p + 1) refl)

pub puts_digits : (t t1 : List ℕ) (p q n : ℕ) → 10 ≤ n → Puts t t1 p q (decimal (n / 10))
    → Puts t (set t1 q (48 + n % 10)) p (q + 1) (decimal n)
puts_digits t t1 p q n ge a = puts_as t p _ _ _ _ (sym (decimal_more n ge))
    (puts_more t p t1 q (q + 1) (48 + n % 10) (decimal (n / 10)) a refl)

-- there is room for the last digit behind the others
pub digits_room : (n : ℕ) → 10 ≤ n → length (decimal (n / 10)) + 1 ≤ length (decimal n)
digits_room n ge = omega (arith, length_more n ge)

pub one_digit : (n : ℕ) → n < 10 → length (decimal n) ≡ 1
one_digit n lt = ap length (decimal_digit n lt)
