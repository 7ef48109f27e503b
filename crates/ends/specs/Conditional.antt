-- What a pop by a condition answers. Assumes nothing.
use Rattle.std.specs.Prelude.{Option, None, Some, ℕ}
use Rattle.rules.specs.Conditions.{Test, meets}
use Rattle.rules.specs.Choices.{whether}
use Rattle.queue.specs.declared.records.Deque.{Deque}
use Rattle.elements.specs.declared.answers.Handed.{Handed}

-- nothing, without change of q
abbrev pub nothing : Deque → Handed Deque
nothing q = record { number = None; after = q; moved = 0 }

-- what a pop answers, given what it handed over: that, if it meets the test; else, or where there is none, nothing
abbrev kept_if : Test → Deque → Handed Deque → Option ℕ → Handed Deque
kept_if t q p (Some v) = whether (meets t v) p (nothing q)
kept_if t q p None = nothing q

unfoldable pub only_if : Test → Deque → Handed Deque → Handed Deque
only_if t q p = kept_if t q p p.number
