-- Journals: records of bytes, and what each does to a queue. Assumes nothing.
use Rattle.std.specs.Prelude.{◌||◌, Bool, List, ℕ, ◌-◌, ◌+◌, eqb, ltb, take, drop, length, get_or}
use Rattle.rules.specs.Ends.{push_back, push_front, pop_front, pop_back, truncate, truncate_front}
use Rattle.rules.specs.Images.{big_endian, version}
use Rattle.rules.specs.Middle.{insert_at, remove_at}
use Rattle.rules.specs.Outcome.{Outcome, shut, draining, do_close, do_rule, do_open}
use Rattle.rules.specs.Records.{Rec}
use Rattle.rules.specs.Choices.{whether}

-- the nine operations of a journal
pub data Entry : Type 0 where
  do_push_back do_push_front : ℕ → Entry
  do_pop_front do_pop_back : Entry
  do_drain : ℕ → ℕ → Entry
  do_truncate do_truncate_front : ℕ → Entry
  do_insert : ℕ → ℕ → Entry
  do_remove : ℕ → Entry

-- the length L of a record of operation o: version, operation, and four bytes for each operand; 0 for an unknown one
unfoldable pub length_of : ℕ → ℕ
length_of o =
    whether (eqb o 3 || eqb o 4) 2
    (whether (eqb o 1 || (eqb o 2 || (eqb o 6 || (eqb o 7 || eqb o 9)))) 6
    (whether (eqb o 5 || eqb o 8) 10 0))

-- a length that some operation has
unfoldable pub some_length : ℕ → Bool
some_length n = eqb n 2 || (eqb n 6 || eqb n 10)

-- operation o with its operands x and y: 1 push_back v, 2 push_front v, 3 pop_front, 4 pop_back,
-- 5 drain start end, 6 truncate n, 7 truncate_front n, 8 insert position v, 9 remove position
unfoldable pub entry_of : ℕ → ℕ → ℕ → Entry
entry_of o x y =
    whether (eqb o 1) (do_push_back x)
    (whether (eqb o 2) (do_push_front x)
    (whether (eqb o 3) do_pop_front
    (whether (eqb o 4) do_pop_back
    (whether (eqb o 5) (do_drain x y)
    (whether (eqb o 6) (do_truncate x)
    (whether (eqb o 7) (do_truncate_front x)
    (whether (eqb o 8) (do_insert x y) (do_remove x))))))))

-- what stands at a position of the bytes: an operation, and the position behind
-- its record; a broken record; one cut short, so that more bytes may help; the end
pub data Got : Type 0 where
  taken : Entry → ℕ → Got
  broken cut ended : Got

-- the number of four bytes at position p
unfoldable pub word_at : List ℕ → ℕ → ℕ
word_at s p = big_endian 0 (take 4 (drop p s))

-- the length of the record at position p
unfoldable pub length_at : List ℕ → ℕ → ℕ
length_at s p = big_endian 0 (take 2 (drop p s))

-- the record at position p: the same length and version as an image, then an operation byte and its operands.
-- What stands there decides as far as it goes: a length of no operation,
-- another version, and an operation of another length are broken
unfoldable pub record_at : List ℕ → ℕ → Got
record_at s p =
    let k = length s - p in
    let n = length_at s p in
    let o = get_or s (p + 3) 0 in
    whether (eqb k 0) ended
    (whether (ltb k 2) cut (whether (some_length n)
    (whether (ltb k 3) cut (whether (eqb (get_or s (p + 2) 0) version)
    (whether (ltb k 4) cut (whether (eqb n (length_of o))
    (whether (ltb k (2 + n)) cut (taken (entry_of o (word_at s (p + 4)) (word_at s (p + 8))) (p + (2 + n))))
    broken)) broken)) broken))

-- a drain that is closed as soon as it is open
unfoldable pub closing : Outcome → Outcome
closing o = elim o.answer.state [ shut r ↦ o | draining d ↦ do_close o.slots d ]

-- what an operation does to a queue
unfoldable pub do_entry : List ℕ → Rec → Entry → Outcome
do_entry b r (do_push_back v) = do_rule b r (push_back v)
do_entry b r (do_push_front v) = do_rule b r (push_front v)
do_entry b r do_pop_front = do_rule b r pop_front
do_entry b r do_pop_back = do_rule b r pop_back
do_entry b r (do_drain s e) = closing (do_open b r s e)
do_entry b r (do_truncate m) = do_rule b r (truncate m)
do_entry b r (do_truncate_front m) = do_rule b r (truncate_front m)
do_entry b r (do_insert i v) = do_rule b r (insert_at i v)
do_entry b r (do_remove i) = do_rule b r (remove_at i)
