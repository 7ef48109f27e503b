-- `splices::fill` meets its contract. Assumes nothing.
use Rattle.std.proofs.Common.{sym, ◌∙◌}
use Rattle.std.proofs.lemmas.Bool.{eqb-true}
use Rattle.holes.proofs.Rooms.{lay_short}
use Rattle.splices.proofs.fill.Goals as goal

pub returns-then-is_empty : goal.returns-then-is_empty
returns-then-is_empty c = sym (lay_short _ _ _ (eqb-true _ _ (sym c.is_empty.ensures ∙ c.if-is_empty.true)))
