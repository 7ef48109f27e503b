-- `plays::advancing::advance` meets its contract: the steps done, and those that are left. Assumes nothing.
use Prim.Native.Nat.{◌-◌, ◌≤◌}
use mathlib.Core.Path.{◌≡◌}
use lib.ListN.{length}
use Rattle.plays.proofs.Calls.{Going}
use Rattle.plays.specs.Pieces.{advanced}
use Rattle.plays.specs.Playing.{Within, play_of}
use Rattle.plays.proofs.advancing.advance.Given as goal

abbrev pub invariant-loop : goal.invariant-loop
invariant-loop l =
    (l.counter ≤ l.end) × (l.end ≡ length l.initial.out) × (length l.slots ≡ length l.initial.slots) × (length l.out ≡ length l.initial.out)
    × Within (length l.bytes) (length l.initial.out) l.done
    × Going l.last l.bytes l.initial.slots l.slots l.initial.out l.out l.initial.done l.done (l.end - l.counter)
    (advanced (length l.initial.out) l.last l.bytes (play_of l.initial.slots l.initial.done.playing))

abbrev pub decreases-loop : goal.decreases-loop
decreases-loop l = l.end - l.counter
