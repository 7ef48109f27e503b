-- `turns::steps::on_drain` meets its contract. Assumes nothing.
use mathlib.Core.Path.{ap, refl}
use Rattle.rules.specs.Sequences.{first_step, takes, if_draining, taken_step, still_step, do_on_drain}
use Rattle.turns.proofs.Told.{one_told}
use Rattle.turns.proofs.steps.on_drain.Goals as goal

pub returns-in_default-clause-step : goal.returns-in_default-clause-step
unfolding first_step takes if_draining taken_step still_step
returns-in_default-clause-step c = λ second. rw c.in_default.is refl

pub returns-clause-step : goal.returns-clause-step
unfolding first_step takes if_draining taken_step
returns-clause-step c = λ second. rw c.in-Draining.is
    (one_told second (do_on_drain _ _ _) _ _ _ _ (c.keep.ensures.told second.state)
    (ap (λ s. s.now) c.keep.ensures.same_slots) c.drain_call-answer.ensures)
