-- `queue::from_front` meets its contract. Assumes nothing.
use Rattle.rules.specs.Drains.{from_front}
use Rattle.queue.proofs.records.from_front.Goals as goal

pub returns : goal.returns
unfolding from_front
returns c = c.one_less.ensures
