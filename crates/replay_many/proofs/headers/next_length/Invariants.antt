-- No more was read than a length has.
use Rattle.std.proofs.Common.{◌≤◌}
use Rattle.replay_many.proofs.headers.next_length.Given as goal

abbrev pub invariant-loop : goal.invariant-loop
invariant-loop l = l.have ≤ 4
