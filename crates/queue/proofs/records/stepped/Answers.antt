-- `queue::stepped` meets its contract. Assumes nothing.
use mathlib.Core.Path.{refl}
use Rattle.rules.specs.Records.{stepped}
use Rattle.queue.proofs.records.stepped.Goals as goal

pub returns : goal.returns
unfolding stepped
returns c = refl
