-- `places::wrap_index` meets its contract. Assumes nothing.
use Rattle.std.proofs.Common.{sym}
use Rattle.rules.proofs.Places.{wrapped-high, wrapped-low}
use Rattle.places.proofs.wrap_index.Goals as goal

pub returns-then-n-cap-clause-place : goal.returns-then-n-cap-clause-place
returns-then-n-cap-clause-place c = sym (wrapped-low _ _ c.if-n-cap.true)

pub returns-else-n-cap-clause-place : goal.returns-else-n-cap-clause-place
returns-else-n-cap-clause-place c = sym (wrapped-high _ _ c.if-n-cap.false)
