-- `walks::Iterator` gives what is left from its end, as std's iterators do. Assumes nothing.
use Rattle.walks.proofs.LeftOver.{gives_last, nears_last}
use Rattle.walks.proofs.lent.IteratorDoubleEndedIterator.next_back.Goals as goal

pub returns-clause-steps : goal.returns-clause-steps
returns-clause-steps c =
    rw c.unwrap_or.ensures (gives_last _ _ c.next_back-step.ensures.slots c.next_back-step.ensures.step)

pub returns-clause-goes : goal.returns-clause-goes
returns-clause-goes c =
    rw c.unwrap_or.ensures (nears_last _ _ c.next_back-step.ensures.slots c.next_back-step.ensures.step)
