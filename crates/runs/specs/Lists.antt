-- A list in two runs of slots. Assumes nothing.
use Rattle.std.specs.Prelude.{List, ◌++◌, ℕ}
use Rattle.runs.specs.declared.TwoRuns.{TwoRuns}

-- the front run, and behind it the back run
abbrev pub listed : TwoRuns → List ℕ
listed runs = runs.front.now ++ runs.back.now
