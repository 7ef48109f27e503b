-- `ends::only_if` meets its contract. Assumes nothing.
use Rattle.std.proofs.Common.{sym, ◌∙◌}
use Rattle.conditions.specs.Tests.{test_of}
use Rattle.ends.proofs.pops.Conditional.{chosen}
use Rattle.rules.specs.Choices.{whether}
use Rattle.rules.specs.Conditions.{passes}
use Rattle.ends.proofs.pops.only_if.Goals as goal
use Rattle.ends.proofs.pops.only_if.Goals.{in_default-via-in-Some+else-meets, in_default-via-in_default}

pub returns-in-Some : goal.returns-in-Some
unfolding passes whether
returns-in-Some c =
    let a = c.args in
    rw (chosen (test_of a.test) a.q a.popped _ c.in-Some.is, sym c.meets.ensures ∙ c.if-meets.true)

pub returns-in_default : goal.returns-in_default
unfolding passes whether
returns-in_default c =
    let a = c.args in
    rw c.nothing.ensures
    (elim c.in_default.branch [
      | in_default-via-in-Some+else-meets w ↦
          rw (chosen (test_of a.test) a.q a.popped _ w.in-Some.is, sym w.meets.ensures ∙ w.if-meets.false)
      | in_default-via-in_default w ↦ rw (chosen (test_of a.test) a.q a.popped _ w.in_default.is)
    ])
