-- `stretches::leaves::copy_in_reversed` meets its contract: what is yielded is
-- the list turned round, each element with its place. Assumes nothing.
use Rattle.std.proofs.Common.{◌<◌, ◌∙◌, ap, length, reverse, arith}
use Rattle.std.proofs.lemmas.Iterator.Adapters.{YieldsList-from_rev_slice}
use Rattle.std.proofs.lemmas.Iterator.Consumers.{YieldsList-turn, YieldsList-end, YieldsList-from_enumerate}
use Rattle.std.proofs.lemmas.List.{length-reverse, length_push}
use Rattle.std.proofs.lemmas.List.FromFn.{get_or-enumerate_from, length-enumerate_from}
use Rattle.stretches.proofs.Parts.{one_more, all_laid}
use Rattle.stretches.proofs.leaves.copy_in_reversed.Goals as goal

pub loop-i-preserved : goal.loop-i-preserved
loop-i-preserved c =
    let l = c.loop-i in
    let d = c.args.dst.now in
    let back = reverse c.args.src.now in
    let many = length-reverse c.args.src.now in
    let turn = YieldsList-turn (YieldsList-from_enumerate (YieldsList-from_rev_slice c.args.src.now cc) cc) l.yielded _
    l.yielded_by _ _ (c.in-Some.i, c.in-Some.last) c.in-Some.is c.next.ensures.steps in
    let more : length l.yielded < length back = omega (arith, turn.0, length-enumerate_from 0 back) in
    let item = turn.1 ∙ get_or-enumerate_from 0 back _ _ more in
    one_more d back _ _ _ _ _ l.invariant more (omega arith) (omega (arith, ap (λ p. p.0) item)) (ap (λ p. p.1) item)
    (length_push l.yielded _)

pub returns : goal.returns
returns c =
    let l = c.loop-i in
    let back = reverse c.args.src.now in
    let many = length-reverse c.args.src.now in
    let end = YieldsList-end (YieldsList-from_enumerate (YieldsList-from_rev_slice c.args.src.now cc) cc) l.yielded _
    l.yielded_by _ _ c.in-None.is c.next.ensures.steps in
    all_laid _ back _ _ l.invariant (end.1 ∙ length-enumerate_from 0 back) (omega arith)
