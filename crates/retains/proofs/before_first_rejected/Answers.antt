-- `retains::before_first_rejected` meets its contract: the list is the front run and behind it the back run.
-- Assumes nothing.
use Rattle.retains.proofs.Stages.{leading_stops, leading_passes, leading_upto}
use Rattle.retains.proofs.before_first_rejected.Goals as goal

pub returns-then-passed-runs-clause-value : goal.returns-then-passed-runs-clause-value
returns-then-passed-runs-clause-value c =
    leading_stops _ _ _ _ (c.whole_runs-runs.ensures.list c.requires) _ c.leading_in-passed.ensures.value
    c.if-passed-runs.true

pub returns-then-passed-runs-clause-few : goal.returns-then-passed-runs-clause-few
returns-then-passed-runs-clause-few c = leading_upto _ _ _ _ (returns-then-passed-runs-clause-value c)

pub returns-clause-value : goal.returns-clause-value
returns-clause-value c =
    leading_passes _ _ _ _ (c.whole_runs-runs.ensures.list c.requires) _ c.leading_in-passed.ensures.value
    c.if-passed-runs.false _ c.leading_in.ensures.value

pub returns-clause-few : goal.returns-clause-few
returns-clause-few c = leading_upto _ _ _ _ (returns-clause-value c)
