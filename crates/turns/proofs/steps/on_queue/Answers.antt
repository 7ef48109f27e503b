-- `turns::steps::on_queue` meets its contract. Assumes nothing.
use mathlib.Core.Path.{ap, refl}
use Rattle.rules.specs.Sequences.{first_step, takes, if_shut, taken_step, still_step, queue_step, do_on_queue}
use Rattle.turns.proofs.Told.{one_told, look_told_lem}
use Rattle.turns.proofs.steps.on_queue.Goals as goal

pub returns-in-Changing-clause-step : goal.returns-in-Changing-clause-step
unfolding first_step takes if_shut taken_step queue_step
returns-in-Changing-clause-step c = λ second. rw (c.in-Shut.is, c.in-Changing.is)
    (one_told second (do_on_queue _ _ _) _ _ _ _ (c.keep.ensures.told second.state)
    (ap (λ s. s.now) c.keep.ensures.same_slots) c.change-answer.ensures)

pub returns-in-Asking-clause-step : goal.returns-in-Asking-clause-step
unfolding first_step takes if_shut taken_step queue_step
returns-in-Asking-clause-step c = λ second. rw (c.in-Shut.is, c.in-Asking.is)
    (look_told_lem _ second _ _ _ (c.told_look.ensures _ second.state) (rw c.lent.ensures at c.ask.ensures))

pub returns-in_default-clause-step : goal.returns-in_default-clause-step
unfolding first_step takes if_shut taken_step still_step
returns-in_default-clause-step c = λ second. rw c.in_default.is refl
