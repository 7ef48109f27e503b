-- `queue::whole_walk` meets its contract. Assumes nothing.
use mathlib.Core.Path.{refl}
use Rattle.rules.specs.Walks.{whole_walk}
use Rattle.queue.proofs.records.whole_walk.Goals as goal

pub returns : goal.returns
unfolding whole_walk
returns c = refl
