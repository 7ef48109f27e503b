-- A queue moved into another region, whole or in portions. Assumes nothing.
use Rattle.std.specs.Prelude.{Bool, List, ℕ, ◌+◌, ◌-◌, min, eqb, ltb, length, take, drop}
use Rattle.std.proofs.Math.Option.{some, none}
use Rattle.rules.specs.Ends.{clear}
use Rattle.rules.specs.Joins.{extend_with}
use Rattle.rules.specs.Makes.{made_with}
use Rattle.rules.specs.Outcome.{accepted, rec_after}
use Rattle.rules.specs.Pairs.{PairOutcome, crossing}
use Rattle.rules.specs.Places.{place}
use Rattle.rules.specs.Records.{Rec, held, with_mark}
use Rattle.rules.specs.Refusals.{on_change, on_queue, on_slots, room}
use Rattle.rules.specs.Rule.{Rule, no_number, no_one, zero_moved}
use Rattle.rules.specs.Choices.{unless, whether}

-- ---- whole

-- 1, 2 and 6 for the queue called on, only 1 for the bare region, then 4
unfoldable pub on_moving : ℕ → Rec → ℕ → ℕ
on_moving cap r cap' = on_change cap r (on_slots cap' (room cap' r.len))

-- everything stands in the bare region with head 0, order kept, and the old queue ends
-- with head 0 and len 0; moved is the number of elements that changed region
unfoldable pub moved_whole : List ℕ → Rec → List ℕ → PairOutcome
moved_whole b r b' =
    let m = made_with b' (held b r) in
    crossing r.len b r clear m.answer.made m.slots

-- refused with n: the same record, none is made, and nothing is written
unfoldable pub do_move : List ℕ → Rec → List ℕ → PairOutcome
do_move b r b' =
    let n = on_moving (length b) r (length b') in
    unless n (moved_whole b r b')
    (record { answer = record { refused = n; moved = 0; rec = r; other = none }; slots = b; slots' = b' })

-- ---- in portions

-- 1, 2 and 6 for the old queue, 1 and 2 for the new one, then 4: the
-- smaller of n and the old queue's len exceeds the new one's free slots
unfoldable pub on_portion : ℕ → Rec → ℕ → Rec → ℕ → ℕ
on_portion cap r cap' r' n = on_change cap r (on_queue cap' r' (room cap' (r'.len + min n r.len)))

-- what the old queue is left with: the first k have gone; it gets head 0 if it ends empty
unfoldable pub pass_on : ℕ → Rule
pass_on k = record {
  own = λ c n. 0;
  list = λ A kind l. drop k l;
  handed = no_number;
  entered = no_one;
  left = λ l. take k l;
  len = λ n l. n - k;
  moved = zero_moved;
  head = λ c h n l. whether (eqb (n - k) 0) 0 (place c h k);
}

-- elements of the old queue, whose record is r, are still to come as k have gone
abbrev pub to_come : ℕ → Rec → Bool
to_come k r = ltb k r.len

-- k elements, the smaller of n and len, go from the front of the old queue to the back of the new one. Its
-- mark is set where the old one is left with elements, and cleared where it is left empty; moved is k
unfoldable pub ported : List ℕ → Rec → List ℕ → Rec → ℕ → PairOutcome
ported b r b' r' n =
    let k = min n r.len in
    let R = extend_with (take k (held b r)) in
    crossing k b r (pass_on k) (some (with_mark (to_come k r) (rec_after b' r' R))) (accepted b' r' R).slots

-- refused with n: the same records, and nothing is written
unfoldable pub do_portion : List ℕ → Rec → List ℕ → Rec → ℕ → PairOutcome
do_portion b r b' r' k =
    let n = on_portion (length b) r (length b') r' k in
    unless n (ported b r b' r' k)
    (record { answer = record { refused = n; moved = 0; rec = r; other = some r' }; slots = b; slots' = b' })
