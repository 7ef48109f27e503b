-- `queue::good_drain` meets its contract. Assumes nothing.
use native.Mathlib.Omega.{arith}
use Rattle.queue.proofs.DrainChecks.{bad}
use Rattle.rules.proofs.Refusals.{head_true}
use Rattle.queue.proofs.refusals.good_drain.Goals as goal

pub good_parts-requires : goal.good_parts-requires
good_parts-requires c = head_true _ _ (omega arith)

pub good_parts-requires-then-first-eq0 : goal.good_parts-requires-then-first-eq0
good_parts-requires-then-first-eq0 c = head_true _ _ (omega arith)

pub returns-else-first-eq0 : goal.returns-else-first-eq0
returns-else-first-eq0 c = bad _ _ (λ g. omega arith)

pub returns-else-cap-eq0 : goal.returns-else-cap-eq0
returns-else-cap-eq0 c = bad _ _ (λ g. omega arith)
