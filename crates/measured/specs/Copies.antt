-- The straight copy alone. Assumes nothing.
use Rattle.std.specs.Prelude.{Bool, ◌&&◌, List, ℕ, zero, suc, ◌+◌, leb, ltb, length}
use Rattle.rules.specs.Refusals.{on_slots}
use Rattle.rules.specs.Slots.{copied}
use Rattle.rules.specs.Choices.{ask, unless}

-- the n slots from s on are slots; s is one, even if n is 0
unfoldable pub in_slots : ℕ → ℕ → ℕ → Bool
in_slots cap s n = ltb s cap && leb (s + n) cap

-- 1, and 3 where a stretch is out of the slots
unfoldable pub on_copy : ℕ → ℕ → ℕ → ℕ → ℕ
on_copy cap s d n = on_slots cap (ask (in_slots cap s n) 3 (ask (in_slots cap d n) 3 0))

-- the slots after so many copies, each of what the one before it left
unfoldable pub copied_times : ℕ → List ℕ → ℕ → ℕ → ℕ → List ℕ
copied_times zero b s d n = b
copied_times (suc t) b s d n = copied (copied_times t b s d n) s d n

-- the refusal number, and the slots: after so many copies, or as they were
unfoldable pub copy_told : List ℕ → ℕ → ℕ → ℕ → ℕ → ℕ × List ℕ
copy_told b s d n t = let k = on_copy (length b) s d n in (k, unless k (copied_times t b s d n) b)
