-- The element at a position stands in its slot. Assumes nothing.
use mathlib.Core.List.{List}
use mathlib.Core.Path.{◌≡◌, sym}
use Prim.Native.Nat.{ℕ, ◌<◌, ◌+◌, ◌≤◌}
use native.Mathlib.Omega.{arith}
use lib.ListN.{length, get_or}
use Rattle.queue.proofs.Checks.{fine}
use Rattle.rules.proofs.Places.{place-low}
use Rattle.rules.proofs.Slots.{get_or_list_of}
use Rattle.rules.specs.Places.{place}
use Rattle.rules.specs.Records.{Rec, held}
use Rattle.rules.specs.Refusals.{on_queue, most_slots}

module _ (b : List ℕ) (r : Rec) (i : ℕ) (first : on_queue (length b) r 0 ≡ 0) (lt : i < r.len) where
  pub element_near : r.head + i ≤ most_slots + most_slots
  element_near = let f = fine b r first in let g = f.good in omega arith

  module _ (p : ℕ) (at_p : p ≡ place (length b) r.head i) where
    pub element_in : p < length b
    element_in = let g = (fine b r first).good in rw at_p (place-low (length b) r.head (omega arith) i (omega arith))

    pub element_is : get_or b p 0 ≡ get_or (held b r) i 0
    unfolding held
    element_is =
        let g = (fine b r first).good in
        rw at_p (sym (get_or_list_of b r.head (omega arith) r.len i g.fits lt))
