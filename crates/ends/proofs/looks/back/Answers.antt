-- `ends::back` meets its contract. Assumes nothing.
use Rattle.std.proofs.Common.{◌∙◌, arith}
use Rattle.ends.proofs.looks.Laws.{last_wrapped}
use Rattle.ends.proofs.looks.back.Goals as goal

pub returns : goal.returns
returns c = c.get.ensures ∙ last_wrapped _ _ _ (omega arith) (omega arith)
