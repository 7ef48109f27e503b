-- `places::next` meets its contract. Assumes nothing.
use Rattle.std.proofs.Common.{◌+◌, arith}
use Rattle.rules.proofs.Places.{wrapped-high, wrapped-low}
use Rattle.places.proofs.next.Goals as goal

pub returns-then-on-cap-clause-place : goal.returns-then-on-cap-clause-place
returns-then-on-cap-clause-place c = let a = c.args in omega (arith, wrapped-high a.cap (a.idx.0 + 1) (omega arith))

pub returns-else-on-cap-clause-place : goal.returns-else-on-cap-clause-place
returns-else-on-cap-clause-place c = let a = c.args in omega (arith, wrapped-low a.cap (a.idx.0 + 1) (omega arith))
