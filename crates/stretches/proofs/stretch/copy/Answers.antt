-- `stretches::stretch::copy` meets its contract: what was held is what stood from src on. Assumes nothing.
use Rattle.std.proofs.Common.{◌∙◌, ap, length}
use Rattle.std.proofs.lemmas.List.{take_at}
use Rattle.rules.proofs.Slots.{length_list_of}
use Rattle.stretches.proofs.Parts.{lent, lent-back}
use Rattle.stretches.proofs.stretch.copy.Goals as goal

pub returns : goal.returns
returns c =
    let b = c.args.slots.now in
    let n = c.args.len in
    let taken = c.copy_each.ensures ∙ lent b _ n _ c.as_index-s.ensures c.requires.len_in_bounds.0 in
    let many = ap length taken ∙ length_list_of b c.args.src.0 n in
    let held = c.copy_each-2.ensures ∙ take_at _ _ n many ∙ taken in
    lent-back b _ _ _ n _ c.as_index-d.ensures held (length_list_of b _ n) c.requires.len_in_bounds.1
