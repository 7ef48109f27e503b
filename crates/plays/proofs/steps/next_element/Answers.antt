-- `plays::steps::next_element` meets its contract. Assumes nothing.
use mathlib.Core.Path.{◌∙◌, ap}
use native.Mathlib.Omega.{arith}
use Rattle.std.specs.Option.{option_flatten}
use Rattle.elements.specs.Answers.{given}
use Rattle.plays.proofs.Done.{does_ending, does_as}
use Rattle.plays.proofs.Elements.{found_given, at_element, at_newline, element-low}
use Rattle.plays.specs.Playing.{play_of}
use Rattle.plays.proofs.steps.next_element.Goals as goal

pub overflow_add-result : goal.overflow_add-result
overflow_add-result c =
    let a = c.args in
    let is = found_given _ _ (c.flatten.ensures ∙ ap option_flatten c.ok.ensures.value) ∙ ap given c.in-Some.is in
    let low = element-low (play_of a.slots.now a.before.playing) a.i _ c.get.ensures _ is in
    omega arith

pub returns-in-Some : goal.returns-in-Some
returns-in-Some c =
    let is = found_given _ _ (c.flatten.ensures ∙ ap option_flatten c.ok.ensures.value) ∙ ap given c.in-Some.is in
    let put = c.put_word.ensures in (
      does_as _ _ _ _ _ _ _ _ (at_element _ _ _ c.get.ensures _ _ (omega arith) is)
          (does_ending _ _ c.args.before _ _ _ _ _ _ (omega arith) (omega arith) put.0),
      omega (arith, put.1),
    )

pub returns-in-None : goal.returns-in-None
returns-in-None c =
    let is = found_given _ _ (c.flatten.ensures ∙ ap option_flatten c.ok.ensures.value) ∙ ap given c.in-None.is in
    let put = c.put_newline.ensures in (
      does_as _ _ _ _ _ _ _ _ (at_newline _ _ _ c.get.ensures is)
          (does_ending _ _ c.args.before _ _ _ _ _ _ (omega arith) (omega arith) put),
      omega (arith, put.next),
    )
