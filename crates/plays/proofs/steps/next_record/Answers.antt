-- `plays::steps::next_record` meets its contract. Assumes nothing.
use mathlib.Core.Path.{◌∙◌}
use native.Mathlib.Omega.{arith}
use Rattle.plays.proofs.Done.{does_as, does_nothing, does_unused, within_record, begins_unused, breaks_unused, plays_one, at_got, cut_off, cut_waits, end_told, end_waits}
use Rattle.plays.proofs.Records.{taken_ends}
use Rattle.plays.specs.Pieces.{do_got}
use Rattle.plays.proofs.steps.next_record.Goals as goal

pub play_record-requires : goal.play_record-requires
play_record-requires c =
    let ends = taken_ends _ _ _ _ (rw c.in-Ok-Some.field-0-is at c.in-Ok-Some.ensures) in
    let pre = c.requires in
    (pre.0, omega (arith, ends.0), omega (arith, ends.0, pre.1.0))

pub returns-in-Ok-Some : goal.returns-in-Ok-Some
unfolding do_got
returns-in-Ok-Some c =
    let is = rw c.in-Ok-Some.field-0-is at c.in-Ok-Some.ensures in
    let ends = taken_ends _ _ _ _ is in
    let played = c.play_record.ensures in (
      does_as _ _ _ _ _ _ _ _ (at_got _ _ _ _ _ is) played.0,
      within_record _ _ _ _ _ _ _ played.0 _ _ _ (plays_one _ _ _).0 (plays_one _ _ _).1 ends.0 ends.1
          c.requires.1 (omega (arith, c.requires.0, played.1)),
    )

pub returns-in-Ok-None : goal.returns-in-Ok-None
unfolding do_got
returns-in-Ok-None c =
    let got = at_got _ _ _ _ _ (rw c.in-Ok-None.field-0-is at c.in-Ok-None.ensures) in
    let begun = c.begin_last.ensures in
    does_unused _ _ _ _ _ _ _ _ _ _ (end_told c.args.before.used _ _ c.if-last.true ∙ got) begun.0
    (begins_unused _) c.requires.1 (omega (arith, c.requires.0, begun.1))

pub returns-in-Err-Broken : goal.returns-in-Err-Broken
unfolding do_got
returns-in-Err-Broken c =
    let got = at_got _ _ _ _ _ (rw c.in-Err-Broken.field-0-is at c.in-Err-Broken.ensures) in
    let broke = c.break_off.ensures in
    does_unused _ _ _ _ _ _ _ _ _ _ got broke.0 (breaks_unused _) c.requires.1 (omega (arith, c.requires.0, broke.1))

pub returns-in-Err-Cut : goal.returns-in-Err-Cut
unfolding do_got
returns-in-Err-Cut c =
    let got = at_got _ _ _ _ _ (rw c.in-Err-Cut.field-0-is at c.in-Err-Cut.ensures) in
    let broke = c.break_off-in-Err-Cut.ensures in
    does_unused _ _ _ _ _ _ _ _ _ _ (cut_off c.args.before.used _ _ c.if-last-2.true ∙ got) broke.0
    (breaks_unused _) c.requires.1 (omega (arith, c.requires.0, broke.1))

pub returns-in-Ok-None-2 : goal.returns-in-Ok-None-2
unfolding do_got
returns-in-Ok-None-2 c =
    let got = at_got _ _ _ _ _ (rw c.in-Ok-None.field-0-is at c.in-Ok-None.ensures) in (
      does_as _ _ _ _ _ _ _ _ (end_waits c.args.before.used _ _ c.if-last.false ∙ got)
          (does_nothing _ _ c.args.before),
      c.requires.1,
    )

pub returns-in-Ok-None-2-2 : goal.returns-in-Ok-None-2-2
unfolding do_got
returns-in-Ok-None-2-2 c =
    let got = at_got _ _ _ _ _ (rw c.in-Err-Cut.field-0-is at c.in-Err-Cut.ensures) in (
      does_as _ _ _ _ _ _ _ _ (cut_waits c.args.before.used _ _ c.if-last-2.false ∙ got)
          (does_nothing _ _ c.args.before),
      c.requires.1,
    )
