-- `elements::element` meets its contract. Assumes nothing.
use mathlib.Core.Path.{◌∙◌}
use Prim.Native.Nat.{◌<◌}
use native.Mathlib.Omega.{arith}
use lib.ListN.{length}
use Rattle.elements.proofs.Elements.{element_in, element_near, element_is}
use Rattle.queue.specs.Answers.{rec_of}
use Rattle.elements.proofs.slots.element.Goals as goal

pub wrap_add-at-requires : goal.wrap_add-at-requires
wrap_add-at-requires c =
    let a = c.args in
    let k = element_near a.slots.now (rec_of a.q) a.i c.requires.0 c.requires.1 in
    omega arith

pub offset_bounds-slots-p : goal.offset_bounds-slots-p
offset_bounds-slots-p c = let k = (let it : c.as_index-p.result < length c.args.slots.now = let a = c.args in element_in a.slots.now (rec_of a.q) a.i c.requires.0 c.requires.1 _ (c.as_index-p.ensures ∙ c.wrap_add-at.ensures.place) in it) in omega arith

pub bounds-slots-p : goal.bounds-slots-p
bounds-slots-p c = (let it : c.as_index-p.result < length c.args.slots.now = let a = c.args in element_in a.slots.now (rec_of a.q) a.i c.requires.0 c.requires.1 _ (c.as_index-p.ensures ∙ c.wrap_add-at.ensures.place) in it)

pub returns : goal.returns
returns c = element_is _ _ _ c.requires.0 c.requires.1 _
    (c.as_index-p.ensures ∙ c.wrap_add-at.ensures.place)
