-- `stretches::leaves::copy_in` meets its contract: what was held is what was lent. Assumes nothing.
use Rattle.std.proofs.Common.{◌∙◌, ap, length, refl}
use Rattle.std.proofs.lemmas.List.{take_at}
use Rattle.stretches.proofs.Parts.{front}
use Rattle.stretches.proofs.leaves.copy_in.Goals as goal

pub returns : goal.returns
returns c =
    let taken = c.copy_each.ensures in
    front _ _ _ _ (c.copy_each-2.ensures ∙ take_at _ _ _ (ap length taken) ∙ taken) refl c.requires.0
