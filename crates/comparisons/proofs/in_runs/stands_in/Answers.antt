-- `comparisons::in_runs::stands_in` meets its contract: the runs passed, and the elements passed of the run at hand,
-- are not x. Assumes nothing.
use mathlib.Core.Logic.{⊎_elim}
use native.Mathlib.Omega.{arith}
use Rattle.comparisons.proofs.Has.{has_none, no_hit, hit_front, hit_back}
use Rattle.comparisons.proofs.in_runs.stands_in.Goals as goal

pub loop-run-preserved : goal.loop-run-preserved
loop-run-preserved c =
    let without = has_none _ _ (λ k lt. c.loop-v.invariant.passed k (omega arith)) in
    ⊎_elim
    (λ w. record { front = λ h. rw w.1 at without; back = λ h. absurd (omega arith) })
    (λ w. record { front = λ h. c.loop-run.invariant.front (omega arith); back = λ h. rw w.1 at without })
    c.loop-v.invariant.at

pub returns-then-v-x : goal.returns-then-v-x
returns-then-v-x c =
    ⊎_elim
    (λ w. hit_front _ _ _ _ (rw w.1 at c.loop-v-test.true) (rw w.1 at c.if-v-x.true))
    (λ w. hit_back _ _ _ _ (rw w.1 at c.loop-v-test.true) (rw w.1 at c.if-v-x.true))
    c.loop-v.invariant.at

pub returns-after-loop-run : goal.returns-after-loop-run
returns-after-loop-run c =
    let kept = c.loop-run.invariant in
    no_hit _ _ _ (kept.front (omega arith)) (kept.back (omega arith))
