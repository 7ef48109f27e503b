-- `queue::good_record` meets its contract. Assumes nothing.
use Prim.Native.Nat.{◌≤◌, ◌<◌, ◌-◌}
use native.Mathlib.Omega.{arith}
use Rattle.rules.proofs.Refusals.{head_true, head_false}
use Rattle.rules.specs.Refusals.{good_rec}
use Rattle.queue.proofs.refusals.good_record.Goals as goal

pub returns-then-h-cap : goal.returns-then-h-cap
unfolding good_rec
returns-then-h-cap c =
    let a = c.args in
    let placed : a.q.head.0 ≤ a.cap - 1 =
    omega (arith, c.as_index-h.ensures, c.if-h-cap.true) in
    rw (head_true a.cap a.q.head.0 placed)

pub returns-then-h-eq0 : goal.returns-then-h-eq0
unfolding good_rec
returns-then-h-eq0 c =
    let a = c.args in
    let placed : a.q.head.0 ≤ a.cap - 1 =
    omega (arith, c.as_index-h.ensures, c.if-h-eq0.true) in
    rw (head_true a.cap a.q.head.0 placed)

pub returns-else-h-eq0 : goal.returns-else-h-eq0
unfolding good_rec
returns-else-h-eq0 c =
    let a = c.args in
    let out : a.cap - 1 < a.q.head.0 =
    omega (arith, c.as_index-h.ensures, c.if-cap-eq0.true, c.if-h-eq0.false) in
    rw (head_false a.cap a.q.head.0 out)

pub returns-else-cap-eq0 : goal.returns-else-cap-eq0
unfolding good_rec
returns-else-cap-eq0 c =
    let a = c.args in
    let out : a.cap - 1 < a.q.head.0 =
    omega (arith, c.as_index-h.ensures, c.if-h-cap.false, c.if-cap-eq0.false) in
    rw (head_false a.cap a.q.head.0 out)
