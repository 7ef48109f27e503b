-- `walks::Iterator` gives what is left from its front, as std's iterators do. Assumes nothing.
use Rattle.walks.proofs.LeftOver.{gives_first, nears_first}
use Rattle.walks.proofs.lent.IteratorIterator.next.Goals as goal

pub returns-clause-steps : goal.returns-clause-steps
returns-clause-steps c = rw c.unwrap_or.ensures (gives_first _ _ c.next-step.ensures.slots c.next-step.ensures.step)

pub returns-clause-goes : goal.returns-clause-goes
returns-clause-goes c = rw c.unwrap_or.ensures (nears_first _ _ c.next-step.ensures.slots c.next-step.ensures.step)
