-- `plays::playing::start` meets its contract. Assumes nothing.
use Rattle.rules.specs.WholeReplay.{starting, in_records}
use Rattle.plays.proofs.playing.start.Goals as goal

pub returns : goal.returns
unfolding starting
returns c b i = record { slots = b; queue = c.new_record.ensures i; stage = in_records }
