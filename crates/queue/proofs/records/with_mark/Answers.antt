-- `queue::with_mark` meets its contract. Assumes nothing.
use mathlib.Core.Path.{refl}
use Rattle.rules.specs.Records.{with_mark}
use Rattle.queue.proofs.records.with_mark.Goals as goal

pub returns : goal.returns
unfolding with_mark
returns c = refl
