-- `plays::steps::step` meets its contract. Assumes nothing.
use mathlib.Core.Path.{ap}
use native.Mathlib.Omega.{arith}
use Rattle.plays.proofs.Done.{does_as, does_nothing, does_unused, no_room, goes}
use Rattle.plays.proofs.Elements.{word_uses}
use Rattle.plays.specs.Pieces.{next}
use Rattle.plays.specs.Playing.{stage_of}
use Rattle.plays.proofs.steps.step.Goals as goal

pub returns-then-out-before-lt105 : goal.returns-then-out-before-lt105
returns-then-out-before-lt105 c =
    let short = c.if-out-before-lt105.true in
    (does_as _ _ _ _ _ _ _ _ (no_room _ _ _ _ _ (omega (arith, short))) (does_nothing _ _ c.args.before), c.requires)

pub returns-in-Records : goal.returns-in-Records
unfolding next
returns-in-Records c =
    let went = c.next_record.ensures in
    let at_stage = ap stage_of c.in-Records.is in
    let room = c.if-out-before-lt105.false in
    (does_as _ _ _ _ _ _ _ _ (goes _ _ _ _ _ (omega (arith, room)) _ at_stage) went.0, went.1)

pub returns-in-Elements : goal.returns-in-Elements
unfolding next
returns-in-Elements c =
    let room = c.if-out-before-lt105.false in
    let at_stage = ap stage_of c.in-Elements.is in
    let went = c.next_element.ensures in
    does_unused _ _ _ _ _ _ _ _ _ _ (goes _ _ _ _ _ (omega (arith, room)) _ at_stage) went.0 (word_uses _ _ _)
    c.requires (omega (arith, room, c.requires.2, went.1))

pub returns-in-Over : goal.returns-in-Over
unfolding next
returns-in-Over c =
    let room = c.if-out-before-lt105.false in
    let at_stage = ap stage_of c.in-Over.is in (
      does_as _ _ _ _ _ _ _ _ (goes _ _ _ _ _ (omega (arith, room)) _ at_stage)
          (does_nothing _ _ c.args.before),
      c.requires,
    )
