-- What a call that changes a queue does with a test, if there is one of the kind. Assumes nothing.
use Rattle.std.specs.Prelude.{List, ℕ, length}
use Rattle.std.proofs.Math.Option.{Option, none, some}
use Rattle.rules.specs.Conditions.{Test}
use Rattle.rules.specs.Looks.{Look, sees, refuses}
use Rattle.rules.specs.Outcome.{Outcome, shut, do_rule, unchanged}
use Rattle.rules.specs.Records.{Rec}
use Rattle.rules.specs.Refusals.{on_change}
use Rattle.rules.specs.Rule.{Rule}

-- where there is no such test: 1, 2 and 6 are asked as ever, then it is 3
abbrev pub refused_kind : ℕ → Rec → ℕ
refused_kind cap r = on_change cap r 3

-- the test, if there is one of the kind, or its refusal n
abbrev pub known_test : Option Test → ℕ → Look Test
known_test (some t) n = sees t
known_test none n = refuses n

-- a call by a rule that takes a test
unfoldable pub do_tested : List ℕ → Rec → Option Test → (Test → Rule) → Outcome
do_tested b r (some t) R = do_rule b r (R t)
do_tested b r none R = unchanged b (shut r) (refused_kind (length b) r)
