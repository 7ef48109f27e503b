-- What a portion leaves of the two queues, and what another one behind it leaves. b, r are the old queue's slots and
-- record, b', r' the new one's. Assumes nothing.
use mathlib.Core.Bool.{true, false}
use mathlib.Core.List.{List, [], ◌++◌, append_assoc}
use mathlib.Core.Logic.{⊎_elim}
use mathlib.Core.Option.{none}
use mathlib.Core.Path.{◌≡◌, refl, ap, ◌∙◌, sym}
use Prim.Native.Nat.{ℕ, zero, suc, ◌+◌, ◌-◌, ◌<◌, ◌≤◌, min}
use native.Mathlib.Omega.{arith}
use borrow.Author.Tests.{ne_eqb, lt-ltb, le-ltb}
use lib.ListN.{length, take, drop, length-append, length-take}
use lib.Seq.{take-add}
use Rattle.rules.proofs.Choices.{lt_or_ge}
use Rattle.rules.proofs.Held.{length-held, laid, stepped_good, mark_good}
use Rattle.rules.proofs.Made.{map-brought}
use Rattle.rules.proofs.Places.{place-place}
use Rattle.rules.proofs.Refusals.{Good}
use Rattle.rules.proofs.Regions.{rest, held_rest, left-standing, portion_ok, portion-long}
use Rattle.rules.proofs.Slots.{lay_more}
use Rattle.rules.specs.Choices.{whether, unless}
use Rattle.rules.specs.Joins.{extend_with}
use Rattle.rules.specs.Outcome.{shut, accepted, rec_after}
use Rattle.rules.specs.Records.{Rec, held, stepped, with_mark}
use Rattle.rules.specs.Pairs.{crossing}
use Rattle.rules.specs.Regions.{to_come, pass_on, on_portion, ported, do_portion}
use Rattle.rules.specs.Sequences.{Pair, CallStep, pair_of, queue_of, first_step, of_both, porting, takes, if_shut, taken_step, pair_step, both_step, made_or}
use Rattle.rules.specs.Slots.{lay}

-- ---- the old queue

-- k have gone, and then j
rest_rest : (b : List ℕ) (r : Rec) → Good (length b) r → (k j : ℕ) → k + j ≤ r.len
    → rest b (rest b r k) j ≡ rest b r (k + j)
unfolding rec_after pass_on stepped whether
rest_rest b r g k j le = by (r.len - (k + j)) refl
  where
    by : (m : ℕ) → r.len - (k + j) ≡ m → rest b (rest b r k) j ≡ rest b r (k + j)
    by zero e = let e' : r.len - k - j ≡ 0 = omega arith in rw (e, e')
    by (suc m) e =
        let e' : r.len - k - j ≡ suc m = omega arith in
        rw (
          e,
          e',
          ne_eqb (suc m) 0 (λ z. omega arith),
          ne_eqb (r.len - k) 0 (λ z. omega arith),
          place-place (length b) r.head (omega (arith, g.placed, g.fits)) k j (omega (arith, g.fits)),
        )

-- ---- the new queue

-- its record after k elements of a queue with the record r have come
unfoldable pub gained : Rec → Rec → ℕ → Rec
gained r r' k = with_mark (to_come k r) (stepped r' r'.head (r'.len + k))

-- what its mark says
pub none_to_come : (k : ℕ) (r : Rec) → r.len ≤ k → to_come k r ≡ false
none_to_come k r le = le-ltb k r.len le

some_to_come : (k : ℕ) (r : Rec) → k < r.len → to_come k r ≡ true
some_to_come k r lt = lt-ltb k r.len lt

-- as k have gone, and then j
to_come_on : (b : List ℕ) (r : Rec) (k j : ℕ) → to_come j (rest b r k) ≡ to_come (k + j) r
unfolding rec_after pass_on stepped
to_come_on b r k j = ⊎_elim
    (λ lt. some_to_come j (rest b r k) (omega arith) ∙ sym (some_to_come (k + j) r lt))
    (λ ge. none_to_come j (rest b r k) (omega arith) ∙ sym (none_to_come (k + j) r ge))
    (lt_or_ge (k + j) r.len)

-- the next j have come, too
gained_gained : (b : List ℕ) (r r' : Rec) (k j : ℕ) → gained (rest b r k) (gained r r' k) j ≡ gained r r' (k + j)
unfolding gained rec_after pass_on stepped with_mark
gained_gained b r r' k j =
    let sum : r'.len + k + j ≡ r'.len + (k + j) = omega arith in
    rw (sum, to_come_on b r k j)

gained_good : (c : ℕ) (r r' : Rec) (k : ℕ) → Good c r' → r'.len + k ≤ c → Good c (gained r r' k)
unfolding gained
gained_good c r r' k g le = mark_good c _ _ (stepped_good c r' r'.head (r'.len + k) g g.placed le)

-- ---- both

-- what is left as k elements have gone from the one to the other
unfoldable pub passed : List ℕ → Rec → List ℕ → Rec → ℕ → Pair
passed b r b' r' k =
    pair_of (queue_of b (shut (rest b r k)))
    (queue_of (lay b' r'.head (held b' r' ++ take k (held b r))) (shut (gained r r' k)))

-- the step of an accepted call by which m elements crossed, and none entered or left
abbrev pub crossed : Pair → ℕ → CallStep
crossed s m = record { queues = s; refused = 0; moved = m; handed = none; sight = none; entered = []; left = [] }

-- a portion that is not refused
pub portion-passes : (b : List ℕ) (r : Rec) (b' : List ℕ) (r' : Rec) (n : ℕ)
    → on_portion (length b) r (length b') r' n ≡ 0
    → let k = min n r.len in
    first_step (queue_of b (shut r)) (queue_of b' (shut r')) (of_both (porting n)) ≡ crossed (passed b r b' r' k) k
unfolding first_step takes if_shut taken_step pair_step both_step do_portion ported crossing made_or unless passed gained
    accepted rec_after stepped pass_on extend_with
portion-passes b r b' r' n z =
    let p = portion_ok (length b) r (length b') r' n z in
    rw (z, left-standing b r (min n r.len) p.0, portion-long b r n, map-brought)

-- k have gone, and then j
pub passed_passed : (b : List ℕ) (r : Rec) (b' : List ℕ) (r' : Rec) (k j : ℕ) → Good (length b) r → Good (length b') r'
    → k + j ≤ r.len → r'.len + k ≤ length b'
    → let p = lay b' r'.head (held b' r' ++ take k (held b r)) in
    passed b (rest b r k) p (gained r r' k) j ≡ passed b r b' r' (k + j)
unfolding passed gained stepped with_mark
passed_passed b r b' r' k j g g' le fits =
    let l = held b' r' ++ take k (held b r) in
    let long : length l ≡ r'.len + k = simp (length-append, length-take, length-held) (omega arith) in
    let now_held : held (lay b' r'.head l) (gained r r' k) ≡ l =
    laid b' (gained r r' k) l (gained_good (length b') r r' k g' fits) long in
    let slots : lay (lay b' r'.head l) r'.head (l ++ take j (drop k (held b r)))
    ≡ lay b' r'.head (held b' r' ++ take (k + j) (held b r)) =
    lay_more b' r'.head l (take j (drop k (held b r))) g'.placed (omega arith)
    ∙ ap (lay b' r'.head) (append_assoc (held b' r') _ _)
    ∙ ap (λ (m : List ℕ). lay b' r'.head (held b' r' ++ m)) (sym (take-add k j (held b r))) in
    rw (
      rest_rest b r g k j le,
      gained_gained b r r' k j,
      now_held,
      held_rest b r k g,
      slots,
    )
