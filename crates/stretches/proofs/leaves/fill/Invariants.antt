-- `stretches::leaves::fill` meets its contract. The invariant: the first slots are v. Assumes nothing.
use Rattle.std.proofs.Common.{◌≡◌, replicate, take}
use Rattle.stretches.proofs.leaves.fill.Given as goal

abbrev pub invariant-loop-slot : goal.invariant-loop-slot
invariant-loop-slot l = take l.slot-index l.slot-items ≡ replicate l.slot-index l.v
