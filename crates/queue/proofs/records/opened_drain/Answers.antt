-- `queue::opened_drain` meets its contract. Assumes nothing.
use mathlib.Core.Path.{refl}
use Rattle.rules.specs.Drains.{opened}
use Rattle.queue.proofs.records.opened_drain.Goals as goal

pub returns : goal.returns
unfolding opened
returns c = refl
