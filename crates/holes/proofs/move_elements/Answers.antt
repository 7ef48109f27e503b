-- `holes::move_elements` meets its contract. Assumes nothing.
use mathlib.Core.Path.{◌∙◌}
use native.Mathlib.Omega.{arith}
use lib.ListN.{length}
use Rattle.holes.proofs.Rooms.{can_move}
use Rattle.rules.specs.Slots.{copied}
use Rattle.holes.proofs.move_elements.Goals as goal

pub wrap_copy-requires : goal.wrap_copy-requires
wrap_copy-requires c =
    let a = c.args in
    let can = can_move (length a.slots.now) a.head.0 a.from a.to a.n _ _ c.requires.0 (omega arith) (omega arith)
    c.requires.3 c.wrap_add-src.ensures.place c.wrap_add-dst.ensures.place in
    record { src_in_bounds = can.0; one_overlap = can.1 }

pub returns : goal.returns
returns c =
    let a = c.args in
    let p = c.wrap_add-src.ensures.place in
    let q = c.wrap_add-dst.ensures.place in
    c.wrap_copy.ensures ∙ (λ t. copied a.slots.now (p t) (q t) a.n)
