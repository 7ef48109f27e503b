-- `stretches::leaves::fill` meets its contract. Assumes nothing.
use Rattle.std.proofs.Common.{arith, ◌∙◌, ◌≡◌, sym, ap, replicate}
use Rattle.std.proofs.lemmas.List.{length-replicate, length-take-le, take_all}
use Rattle.stretches.proofs.Parts.{front}
use Rattle.stretches.proofs.leaves.fill.Goals as goal

pub returns : goal.returns
returns c =
    let l = c.loop-slot in
    let n = c.args.n in
    let lent = length-take-le n c.args.dst.now c.requires in
    let all : l.slot-index ≡ n = omega arith in
    let filled = sym (take_all l.slot-index l.slot-items (omega arith)) ∙ l.invariant
    ∙ ap (λ k. replicate k c.args.v) all in
    front _ _ _ n filled (length-replicate n c.args.v) c.requires
