-- `queue::good_parts` meets its contract. Assumes nothing.
use native.Mathlib.Omega.{arith}
use Rattle.queue.proofs.DrainChecks.{bad, last_test}
use Rattle.queue.proofs.refusals.good_parts.Goals as goal

pub returns-then-handed-d : goal.returns-then-handed-d
returns-then-handed-d c = last_test _ _ c.requires (omega arith) (omega arith) (omega arith)

pub returns-else-handed-d : goal.returns-else-handed-d
returns-else-handed-d c = bad _ _ (λ g. omega arith)

pub returns-else-d : goal.returns-else-d
returns-else-d c = bad _ _ (λ g. omega arith)

pub returns-else-d-behind_start-2 : goal.returns-else-d-behind_start-2
returns-else-d-behind_start-2 c = bad _ _ (λ g. omega arith)

pub returns-else-d-behind_start : goal.returns-else-d-behind_start
returns-else-d-behind_start c = bad _ _ (λ g. omega arith)

pub returns-else-d-cap : goal.returns-else-d-cap
returns-else-d-cap c = bad _ _ (λ g. omega arith)
