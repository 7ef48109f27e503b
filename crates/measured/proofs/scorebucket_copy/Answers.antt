-- `measured::scorebucket_copy` meets its contract. Assumes nothing.
use Rattle.measured.proofs.Copies.{refused, all_copied}
use Rattle.measured.proofs.scorebucket_copy.Goals as goal

pub returns-in-Err : goal.returns-in-Err
returns-in-Err c = rw c.number.ensures (refused _ _ _ _ _ _ c.in-Err.ensures.number)

pub returns : goal.returns
returns c =
    all_copied _ _ _ _ _ _ _ _ c.from_arbitrary_number-from.ensures c.from_arbitrary_number-to.ensures c.copy_times.ensures
    c.in_default.ensures.number
