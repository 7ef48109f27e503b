-- `turns::steps::on_both` meets its contract. Assumes nothing.
use mathlib.Core.List.{[]}
use mathlib.Core.Path.{refl, ap, ◌∙◌}
use Rattle.answers.proofs.Forms.{joined_form, split_form}
use Rattle.rules.specs.Pairs.{do_append, do_split}
use Rattle.rules.specs.Regions.{do_move, do_portion}
use Rattle.rules.specs.Sequences.{first_step, takes, if_shut, taken_step, still_step, pair_step, stands}
use Rattle.turns.proofs.Told.{both_told, look_told_lem}
use Rattle.turns.proofs.steps.on_both.Goals as goal

pub returns-in_default-clause-step : goal.returns-in_default-clause-step
unfolding first_step takes if_shut taken_step still_step
returns-in_default-clause-step c = rw (c.in_default.is-0, c.in_default.is-1) refl

pub returns-in_default-2-clause-step : goal.returns-in_default-2-clause-step
unfolding first_step takes if_shut taken_step still_step
returns-in_default-2-clause-step c = rw c.in_default.is-0 refl

pub returns-in-Append-clause-step : goal.returns-in-Append-clause-step
unfolding first_step takes if_shut taken_step pair_step
returns-in-Append-clause-step c =
    let k = c.in-Shut-Shut in
    let told = rw (k.is-0, k.is-1) at c.keep_both.ensures.told in
    let same = c.keep_both.ensures.same_slots in
    rw (k.is-0, k.is-1, c.in-Append.is)
    (both_told _ (do_append _ _ _ _) [] _ _ _ _ _ _ (told ∙ joined_form _ _ _ _)
    (ap (λ s. s.now) same.0) (ap (λ s. s.now) same.1) (rw c.lent.ensures at c.append-change.ensures))

pub returns-in-SplitOff-clause-step : goal.returns-in-SplitOff-clause-step
unfolding first_step takes if_shut taken_step pair_step
returns-in-SplitOff-clause-step c =
    let k = c.in-Shut-Shut in
    let told = rw (k.is-0, k.is-1) at c.keep_both-in-SplitOff.ensures.told in
    let same = c.keep_both-in-SplitOff.ensures.same_slots in
    rw (k.is-0, k.is-1, c.in-SplitOff.is)
    (both_told _ (do_split _ _ _ _) (stands _ _) _ _ _ _ _ _ (told ∙ split_form _ _ _)
    (ap (λ s. s.now) same.0) (ap (λ s. s.now) same.1) (rw c.lent-in-SplitOff.ensures at c.split_off-change.ensures))

pub returns-in-MoveAll-clause-step : goal.returns-in-MoveAll-clause-step
unfolding first_step takes if_shut taken_step pair_step
returns-in-MoveAll-clause-step c =
    let k = c.in-Shut-Shut in
    let told = rw (k.is-0, k.is-1) at c.keep_both-in-MoveAll.ensures.told in
    let same = c.keep_both-in-MoveAll.ensures.same_slots in
    rw (k.is-0, k.is-1, c.in-MoveAll.is)
    (both_told _ (do_move _ _ _) (stands _ _) _ _ _ _ _ _ (told ∙ split_form _ _ _)
    (ap (λ s. s.now) same.0) (ap (λ s. s.now) same.1) (rw c.lent-in-MoveAll.ensures at c.move_all-change.ensures))

pub returns-in-MovePortion-clause-step : goal.returns-in-MovePortion-clause-step
unfolding first_step takes if_shut taken_step pair_step
returns-in-MovePortion-clause-step c =
    let k = c.in-Shut-Shut in
    let told = rw (k.is-0, k.is-1) at c.keep_both-in-MovePortion.ensures.told in
    let same = c.keep_both-in-MovePortion.ensures.same_slots in
    rw (k.is-0, k.is-1, c.in-MovePortion.is)
    (both_told _ (do_portion _ _ _ _ _) [] _ _ _ _ _ _ (told ∙ joined_form _ _ _ _)
    (ap (λ s. s.now) same.0) (ap (λ s. s.now) same.1)
    (rw c.lent-in-MovePortion.ensures at c.move_portion-change.ensures))

pub returns-in-Comparing-clause-step : goal.returns-in-Comparing-clause-step
unfolding first_step takes if_shut taken_step pair_step
returns-in-Comparing-clause-step c =
    let k = c.in-Shut-Shut in
    rw (k.is-0, k.is-1, c.in-Comparing.is)
    (look_told_lem _ _ _ _ _ (c.told_look.ensures _ _)
    (rw (c.lent-in-Comparing.ensures, c.lent-in-Comparing-2.ensures) at c.ask_both.ensures))
