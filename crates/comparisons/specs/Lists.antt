-- Two lists, each in its runs. Assumes nothing.
use Rattle.std.specs.Prelude.{List, ℕ}
use Rattle.runs.specs.Lists.{listed}
use Rattle.runs.specs.declared.TwoRuns.{TwoRuns}

-- both lists, as they are
abbrev pub both : List ℕ → List ℕ → List ℕ × List ℕ
both l m = (l, m)

abbrev pub both_listed : TwoRuns × TwoRuns → List ℕ × List ℕ
both_listed t = (listed t.0, listed t.1)
