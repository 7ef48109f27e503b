-- `journals::performing::drain_closed` meets its contract. Assumes nothing.
use mathlib.Core.Path.{ap}
use Rattle.journals.proofs.Performs.{stays-shut, opens_closes}
use Rattle.queue.specs.Drains.{state_of}
use Rattle.journals.proofs.performing.drain_closed.Goals as goal

pub returns-in-Shut : goal.returns-in-Shut
returns-in-Shut c = stays-shut _ _ _ _ c.of_change-opened.ensures c.drain.ensures _ (ap state_of c.in-Shut.is)

pub returns-in-Draining : goal.returns-in-Draining
returns-in-Draining c =
    let still = ap state_of c.in-Draining.is in
    opens_closes _ _ _ _ c.of_change-opened.ensures c.drain.ensures _ still _ _ _
    c.of_change.ensures c.drain_close.ensures
