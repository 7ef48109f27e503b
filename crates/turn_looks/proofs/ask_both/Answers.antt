-- `turn_looks::ask_both` meets its contract. Assumes nothing.
use borrow.Author.Rules.{rules}
use Rattle.queue.specs.Looks.{order_of}
use Rattle.rules.specs.Asks.{answered_both, ordered, truth}
use Rattle.turn_looks.proofs.Known.{told_by}
use Rattle.turn_looks.proofs.ask_both.Goals as goal

pub returns-in-Eq : goal.returns-in-Eq
unfolding answered_both
returns-in-Eq c =
    rw c.in-Eq.is (told_by (λ t. t) truth (λ x y h. search rules) _ _ _
    c.map.ensures.cases c.eq.ensures)

pub returns-in-Cmp : goal.returns-in-Cmp
unfolding answered_both
returns-in-Cmp c =
    rw c.in-Cmp.is (told_by order_of ordered (λ x y h. search rules) _ _ _
    c.map-in-Cmp.ensures.cases c.cmp.ensures)
