-- `queue::new_record` meets its contract. Assumes nothing.
use Rattle.rules.specs.Records.{new_rec}
use Rattle.queue.proofs.records.new_record.Goals as goal

pub returns : goal.returns
unfolding new_rec
returns c = rw c.zero.ensures
