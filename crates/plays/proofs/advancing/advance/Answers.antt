-- `plays::advancing::advance` meets its contract: the steps done, and those that are left. Assumes nothing.
use Prim.Native.Nat.{ℕ, suc, ◌+◌, ◌-◌, ◌<◌, ◌≤◌}
use mathlib.Core.Path.{◌≡◌, refl, ◌∙◌}
use native.Mathlib.Omega.{arith}
use lib.ListN.{length}
use borrow.Author.Rules.{rules}
use Rattle.plays.proofs.Calls.{going_start, going_more, going_quiet, going_over, all_done}
use Rattle.plays.proofs.advancing.advance.Goals as goal

-- a step is left where the counter is low
one_more : (k n : ℕ) → k < n → n - k ≡ suc (n - (k + 1))
one_more k n lt = omega arith

pub loop-init : goal.loop-init
loop-init c = (
  search rules,
  search rules,
  refl,
  refl,
  search rules,
  going_start _ _ _ _ _ _ (omega arith),
)

pub step-after-requires : goal.step-after-requires
step-after-requires c =
    let i = c.loop.invariant in
    (i.4.0, i.4.1, omega (arith, i.3, i.4.2))

pub returns-then-after-done : goal.returns-then-after-done
returns-then-after-done c =
    let i = c.loop.invariant in
    let more = c.loop-test.true in
    let went = c.step-after.ensures in
    let fits : c.step-after.result.written ≤ length c.args.out.now = omega (arith, went.1.2, i.3) in
    let d = all_done _ _ _ _ _ _ _ (going_quiet _ _ _ _ _ _ _ _ _ _ _ _ _ _ i.3 (one_more _ _ more) i.5
    went.0 (omega (arith, c.if-after-done.true))) fits in
    record { out_after = d.0; out_unchanged = d.1; used_in_bounds = (went.1.1, fits) }

pub overflow_step : goal.overflow_step
overflow_step c =
    let more = c.loop-test.true in
    omega (
      arith,
      more,
      c.loop.invariant.1,
    )

pub loop-smaller : goal.loop-smaller
loop-smaller c = let more = c.loop-test.true in omega (arith, more)

pub loop-preserved : goal.loop-preserved
loop-preserved c =
    let i = c.loop.invariant in
    let more = c.loop-test.true in
    let went = c.step-after.ensures in (
      omega (arith, more),
      i.1,
      c.step-after.auto.slots ∙ i.2,
      search rules,
      (went.1.0, went.1.1, omega (arith, went.1.2, i.3)),
      going_more _ _ _ _ _ _ _ _ _ _ _ _ _ _ i.3 (one_more _ _ more) i.5 went.0,
    )

pub returns : goal.returns
returns c =
    let i = c.loop.invariant in
    let d = all_done _ _ _ _ _ _ _ (going_over _ _ _ _ _ _ _ _ _ _ (omega (arith, c.loop-test.false)) i.5)
    i.4.2 in
    record { out_after = d.0; out_unchanged = d.1; used_in_bounds = (i.4.1, i.4.2) }
