-- `measured::copy_times` meets its contract. The invariant: so many copies are made. Assumes nothing.
use Rattle.std.proofs.Common.{◌≡◌, length}
use Rattle.measured.specs.Copies.{copied_times}
use Rattle.measured.proofs.copy_times.Given as goal

abbrev pub invariant-loop : goal.invariant-loop
invariant-loop l =
    (length l.slots ≡ length l.initial.slots) × (l.slots ≡ copied_times l.counter l.initial.slots l.src.0 l.dst.0 l.n)
