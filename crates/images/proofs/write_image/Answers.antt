-- `images::write_image` meets its contract. Assumes nothing.
use Rattle.images.proofs.Writing.{writes_first}
use Rattle.images.proofs.write_image.Goals as goal

pub returns-in_err-check : goal.returns-in_err-check
returns-in_err-check c = writes_first _ _ _ _ _ c.from_residual.ensures.1 c.in_err-check.ensures.number
