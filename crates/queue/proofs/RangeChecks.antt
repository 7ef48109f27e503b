-- A range of positions: one law for each return of `check_range`,
-- and what it tells where more is asked. Assumes nothing.
use mathlib.Core.Bool.{Bool, true, false}
use mathlib.Core.Logic.{◌≢◌}
use mathlib.Core.Path.{◌≡◌, sym}
use Prim.Native.Nat.{ℕ, ◌<◌, ◌≤◌}
use borrow.Author.Tests.{lt-leb, le-leb}
use lib.Dec.{leb}
use Rattle.rules.proofs.Refusals.{range_ok}
use Rattle.rules.specs.Refusals.{in_range}
use Rattle.rules.specs.Choices.{ask}

module _ (n s e k : ℕ) where
  pub range_turned : e < s → in_range n s e k ≡ 3
  unfolding in_range ask
  range_turned lt = rw (lt-leb s e lt)

  pub range_past : s ≤ e → n < e → in_range n s e k ≡ 3
  unfolding in_range ask
  range_past le lt = rw (le-leb s e le, lt-leb e n lt)

  pub range_in : s ≤ e → e ≤ n → in_range n s e k ≡ k
  unfolding in_range ask
  range_in le le' = rw (le-leb s e le, le-leb e n le')

  -- it is one: what is asked after it decides
  pub range_go : in_range n s e 0 ≡ 0 → in_range n s e k ≡ k
  range_go z = let r = range_ok n s e 0 z in range_in r.0 r.1

-- two tests with one number: where one of them refuses, it does whatever is asked after
both_stop : (t u : Bool) (k m : ℕ) → m ≢ 0 → ask t 3 (ask u 3 0) ≡ m → ask t 3 (ask u 3 k) ≡ m
unfolding ask
both_stop true true k m ne z = absurd (ne (sym z))
both_stop true false k m ne z = z
both_stop false u k m ne z = z

-- it is none: m is its refusal, whatever is asked after
pub range_stop : (n s e k m : ℕ) → m ≢ 0 → in_range n s e 0 ≡ m → in_range n s e k ≡ m
unfolding in_range
range_stop n s e k m ne z = both_stop (leb s e) (leb e n) k m ne z
