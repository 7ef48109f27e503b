-- `retains::sift` meets its contract. Assumes nothing.
use Rattle.std.proofs.Common.{arith, refl}
use Rattle.retains.proofs.Stages.{sifted}
use Rattle.rules.specs.Conditions.{those}
use Rattle.retains.proofs.sift.Goals as goal

pub loop-x-init : goal.loop-x-init
unfolding those
loop-x-init c = (omega arith, refl)

pub loop-x-preserved : goal.loop-x-preserved
loop-x-preserved c =
    let s = c.loop-x.invariant in
    sifted _ _ _ _ _ s.0 c.loop-x-test.true (omega arith) s.1 _ c.meets.ensures _ c.from-kept.ensures
