-- The tests of a queue whose mark is not asked. Assumes nothing.
use Rattle.std.proofs.Common.{◌≡◌, ℕ, sym}
use Rattle.extends.proofs.Asks as changes
use Rattle.queue.proofs.Checks.{first_checked}
use Rattle.queue.proofs.Numbers.{some_number}
use Rattle.queue.specs.Answers.{number_of}
use Rattle.rules.proofs.Refusals.{queue_go, queue-stop}
use Rattle.rules.specs.Records.{Rec}
use Rattle.rules.specs.Refusals.{on_queue}
use Rattle.queue.specs.declared.refusals.Refusal.{Refusal}

-- 1 or 2 of a queue is given, whatever is asked after
pub queue_refuses : (c : ℕ) (r : Rec) (k : ℕ) (x : Refusal) → number_of x ≡ on_queue c r 0
    → number_of x ≡ on_queue c r k
queue_refuses c r k x e = sym (queue-stop c r k (number_of x) (some_number x) (sym e))

-- for what the tests answer
pub ruleset asks = (changes.asks, first_checked, queue_refuses, queue_go)
