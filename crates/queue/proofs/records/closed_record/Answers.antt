-- `queue::closed_record` meets its contract. Assumes nothing.
use Rattle.queue.proofs.records.closed_record.Goals as goal

pub returns : goal.returns
returns c = rw (c.stepped.ensures, c.as_opened.ensures, c.head_over.ensures)
