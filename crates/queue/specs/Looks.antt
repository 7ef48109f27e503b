-- Walks, spans, and the answers of calls that only look, in the
-- terms of the rules: what was seen, or the number. Assumes nothing.
use Rattle.std.specs.Prelude.{ℕ, Result, Ok, Err}
use Rattle.std.specs.declared.cmp.Ordering.{Ordering}
use Rattle.std.specs.declared.cmp.Ordering.TheVariants.{Less, Equal, Greater}
use Rattle.queue.specs.Answers.{rec_of, number_of}
use Rattle.rules.specs.Looks.{Look, sees, refuses, Order, less, alike, greater}
use Rattle.rules.specs.Runs as rules
use Rattle.rules.specs.Search.{Spot, found_at, place_at}
use Rattle.rules.specs.Walks.{Walk as RuledWalk}
use Rattle.queue.specs.declared.records.Walk.{Walk}
use Rattle.queue.specs.declared.records.Span.{Span}
use Rattle.queue.specs.declared.refusals.Refusal.{Refusal}
use Rattle.queue.specs.declared.answers.Runs.{Runs}

-- what a look saw, as the rules tell it by f, or the number of its refusal
abbrev pub look_of : {A B : Type 0} → (A → B) → Result A Refusal → Look B
look_of f (Ok a) = sees (f a)
look_of f (Err x) = refuses (number_of x)

-- the same, of what the rules tell as it is: a truth, a position, a count
abbrev pub seen : {A : Type 0} → Result A Refusal → Look A
seen a = look_of (λ x. x) a

-- the walk that the rules speak of
abbrev pub walk_of : Walk → RuledWalk
walk_of w = record { rec = rec_of w.queue; low = w.low; high = w.high }

-- from start to before end
abbrev pub span_of : Span → rules.Span
span_of p = rules.from_to p.start p.end

-- the two runs
abbrev pub runs_of : Runs → rules.TwoRuns
runs_of r = rules.two_runs (span_of r.front) (span_of r.back)

-- lexicographic order
abbrev pub order_of : Ordering → Order
order_of Less = less
order_of Equal = alike
order_of Greater = greater

-- found at a position, or a place to insert
abbrev pub spot_of : Result ℕ ℕ → Spot
spot_of (Ok p) = found_at p
spot_of (Err p) = place_at p
