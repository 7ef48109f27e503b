-- The two runs of a range. Assumes nothing.
use Rattle.std.specs.Prelude.{List, ℕ, ◌-◌, ◌+◌, eqb, leb, length, take, drop}
use Rattle.rules.specs.Looks.{Look, looked}
use Rattle.rules.specs.Places.{place}
use Rattle.rules.specs.Records.{Rec}
use Rattle.rules.specs.Refusals.{on_range}
use Rattle.rules.specs.Choices.{whether, unless}

-- from a to before e
pub record Span : Type 0 where
  pub a : ℕ
  pub e : ℕ

-- the two runs: the front run, and the back run
pub record TwoRuns : Type 0 where
  pub front : Span
  pub back : Span

abbrev pub from_to : ℕ → ℕ → Span
from_to a e = record { a = a; e = e }

abbrev pub two_runs : Span → Span → TwoRuns
two_runs f k = record { front = f; back = k }

-- empty: 0..0 and 0..0, wherever head is. Otherwise w is the place of start:
-- if cap - w >= end - start, then w..w+(end-start) and 0..0; else w..cap and 0..the rest
unfoldable pub runs : ℕ → ℕ → ℕ → ℕ → TwoRuns
runs cap head s e =
    let w = place cap head s in
    whether (eqb s e) (two_runs (from_to 0 0) (from_to 0 0))
    (whether (leb (e - s) (cap - w)) (two_runs (from_to w (w + (e - s))) (from_to 0 0))
    (two_runs (from_to w cap) (from_to 0 (e - s - (cap - w)))))

-- the call for the two ranges gives the number
unfoldable pub look_runs : List ℕ → Rec → ℕ → ℕ → Look TwoRuns
look_runs b r s e = looked (on_range (length b) r s e) (runs (length b) r.head s e)

-- the two runs; refused, 0..0 twice
unfoldable pub runs_or : List ℕ → Rec → ℕ → ℕ → TwoRuns
runs_or b r s e = unless (on_range (length b) r s e) (runs (length b) r.head s e) (two_runs (from_to 0 0) (from_to 0 0))

-- that part of the slots
unfoldable pub part : List ℕ → Span → List ℕ
part b p = take (p.e - p.a) (drop p.a b)

-- the front run, and the back run, as that part of the lent slots; refused, the empty part
unfoldable pub front_run : List ℕ → Rec → ℕ → ℕ → List ℕ
front_run b r s e = part b (runs_or b r s e).front

unfoldable pub back_run : List ℕ → Rec → ℕ → ℕ → List ℕ
back_run b r s e = part b (runs_or b r s e).back
