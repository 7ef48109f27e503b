-- `turn_changes::change` meets its contract. Assumes nothing.
use Rattle.rules.specs.Sequences.{do_on_queue}
use Rattle.turn_changes.proofs.Makes.{makes}
use Rattle.turn_changes.proofs.change.Goals as goal

pub returns-in-Fresh : goal.returns-in-Fresh
unfolding do_on_queue
returns-in-Fresh c = rw c.in-Fresh.is (makes _ _ _ _ _ _ c.of_change-in-Fresh.ensures c.fresh.ensures)

pub returns-in-ReadImage : goal.returns-in-ReadImage
unfolding do_on_queue
returns-in-ReadImage c = rw c.in-ReadImage.is (makes _ _ _ _ _ _ c.of_change-in-ReadImage.ensures c.read_image.ensures)
