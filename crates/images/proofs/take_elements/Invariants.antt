-- `images::take_elements` meets its contract. Assumes nothing.
use Rattle.std.proofs.Common.{◌≡◌, take}
use Rattle.rules.specs.Images.{fours}
use Rattle.images.proofs.take_elements.Given as goal

abbrev pub invariant-loop-i : goal.invariant-loop-i
invariant-loop-i l = take l.i l.slots ≡ fours l.i l.bytes
