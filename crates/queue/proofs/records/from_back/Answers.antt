-- `queue::from_back` meets its contract. Assumes nothing.
use Rattle.rules.specs.Drains.{from_back}
use Rattle.queue.proofs.records.from_back.Goals as goal

pub returns : goal.returns
unfolding from_back
returns c = c.one_less.ensures
