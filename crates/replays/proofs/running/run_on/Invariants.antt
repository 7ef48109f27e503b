-- What waits fits into the buffer.
use Rattle.std.proofs.Common.{◌≡◌, ◌≤◌, length}
use Rattle.replays.proofs.running.run_on.Given as goal

abbrev pub invariant-loop : goal.invariant-loop
invariant-loop l =
    (l.run.have ≤ length l.input) × (length l.input ≡ length l.fn.input) × (l.run.limit ≡ l.fn.run.limit)
