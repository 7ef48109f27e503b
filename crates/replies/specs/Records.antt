-- The records as they cross: the numbers of their fields, one behind
-- the other, as words of the caller's memory. Assumes nothing.
use Rattle.std.specs.Prelude.{not, List, [], ◌∷◌, ◌++◌, ℕ, eqb, get_or}
use Rattle.rules.specs.Choices.{whether}
use Rattle.rules.specs.Drains.{Drain}
use Rattle.rules.specs.Outcome.{State, shut, draining}
use Rattle.rules.specs.Records.{Rec}
use Rattle.rules.specs.Runs.{TwoRuns}
use Rattle.rules.specs.Walks.{Walk}

-- ---- as they are read

-- of head, len and the mark's word: any but 0 is set
unfoldable pub rec_from : ℕ → ℕ → ℕ → Rec
rec_from h n m = record { head = h; len = n; mark = not (eqb m 0) }

-- head, len, mark
unfoldable pub rec_in : List ℕ → Rec
rec_in l = rec_from (get_or l 0 0) (get_or l 1 0) (get_or l 2 0)

-- head, start, drain_len, idx, tail_len, remaining
unfoldable pub drain_in : List ℕ → Drain
drain_in l = record {
  head = get_or l 0 0;
  start = get_or l 1 0;
  drained = get_or l 2 0;
  idx = get_or l 3 0;
  tail = get_or l 4 0;
  remaining = get_or l 5 0;
}

-- the record's three, low, high
unfoldable pub walk_in : List ℕ → Walk
walk_in l = record { rec = rec_in l; low = get_or l 3 0; high = get_or l 4 0 }

-- ---- as they are stored, in the same order

-- a mark that is set is 1, none is 0
unfoldable pub rec_words : Rec → List ℕ
rec_words r = r.head ∷ r.len ∷ whether r.mark 1 0 ∷ []

unfoldable pub drain_words : Drain → List ℕ
drain_words d = d.head ∷ d.start ∷ d.drained ∷ d.idx ∷ d.tail ∷ d.remaining ∷ []

unfoldable pub walk_words : Walk → List ℕ
walk_words w = rec_words w.rec ++ w.low ∷ w.high ∷ []

-- of the queue, or of its open drain
abbrev pub state_words : State → List ℕ
state_words (shut r) = rec_words r
state_words (draining d) = drain_words d

-- where the front run begins and ends, and the back run
unfoldable pub runs_words : TwoRuns → List ℕ
runs_words t = t.front.a ∷ t.front.e ∷ t.back.a ∷ t.back.e ∷ []
