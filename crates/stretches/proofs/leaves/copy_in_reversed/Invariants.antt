-- `stretches::leaves::copy_in_reversed` meets its contract. The
-- invariant: as many as were yielded are copied. Assumes nothing.
use Rattle.std.proofs.Common.{reverse, length}
use Rattle.stretches.proofs.Parts.{Laid}
use Rattle.stretches.proofs.leaves.copy_in_reversed.Given as goal

abbrev pub invariant-loop-i : goal.invariant-loop-i
invariant-loop-i l = Laid l.initial.dst (reverse l.src) (length l.yielded) l.dst
