-- `queue::head_over` meets its contract. Assumes nothing.
use borrow.Author.Tests.{ne_eqb}
use Rattle.rules.specs.Choices.{whether}
use Rattle.queue.proofs.records.head_over.Goals as goal

pub returns-then-len-eq0 : goal.returns-then-len-eq0
unfolding whether
returns-then-len-eq0 c = rw (c.if-len-eq0.true, c.zero.ensures)

pub returns : goal.returns
unfolding whether
returns c = rw (ne_eqb _ 0 c.if-len-eq0.false)
