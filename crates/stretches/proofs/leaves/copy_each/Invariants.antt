-- `stretches::leaves::copy_each` meets its contract. The invariant: the first i elements are copied. Assumes nothing.
use Rattle.std.proofs.Common.{◌≡◌, ◌++◌, take, drop}
use Rattle.stretches.proofs.leaves.copy_each.Given as goal

abbrev pub invariant-loop-i : goal.invariant-loop-i
invariant-loop-i l = l.dst ≡ take l.i l.src ++ drop l.i l.initial.dst
