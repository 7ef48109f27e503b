-- `partition_point` by a test, if there is one of the kind. Assumes nothing.
use Rattle.std.specs.Prelude.{List, ℕ, length}
use Rattle.std.proofs.Math.Option.{Option, none, some}
use Rattle.rules.specs.Conditions.{Test}
use Rattle.rules.specs.Looks.{Look, refuses}
use Rattle.rules.specs.Records.{Rec}
use Rattle.rules.specs.Refusals.{on_queue}
use Rattle.rules.specs.Search.{partition_by}

-- where there is no such test: 1 and 2 are asked as ever, then it is 3
abbrev pub no_such_point : ℕ → Rec → Look ℕ
no_such_point cap r = refuses (on_queue cap r 3)

unfoldable pub partition_tested : List ℕ → Rec → Option Test → Look ℕ
partition_tested b r (some t) = partition_by b r t
partition_tested b r none = no_such_point (length b) r
