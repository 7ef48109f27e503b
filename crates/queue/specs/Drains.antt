-- The drain record and the answers of its opening and closing, in the terms of the rules. Assumes nothing.
use Rattle.std.specs.Prelude.{ℕ, ◌≤◌, ◌-◌, ◌+◌, Result}
use Rattle.queue.specs.Answers.{rec_of, queued, changing}
use Rattle.rules.specs.Drains.{Drain}
use Rattle.rules.specs.Outcome.{Answer, State, shut, draining}
use Rattle.rules.specs.Refusals.{most_slots}
use Rattle.queue.specs.declared.records.Deque.{Deque}
use Rattle.queue.specs.declared.records.Drain.{Drain as Draining}
use Rattle.queue.specs.declared.records.State.{State as Kept}
use Rattle.queue.specs.declared.records.State.TheVariants.{Shut, Draining as Drains}
use Rattle.queue.specs.declared.refusals.Refusal.{Refusal}
use Rattle.queue.specs.declared.answers.Change.{Change}

-- the drain record that the rules speak of
abbrev pub drain_of : Draining → Drain
drain_of d = record {
  head = d.head.0;
  start = d.start;
  drained = d.drain_len;
  idx = d.idx;
  tail = d.tail_len;
  remaining = d.remaining;
}

-- what a good drain record keeps to: few slots, a head in them unless there is none, its queue's parts no more than the
-- slots, and what remains in the drained part
abbrev pub DrainFits : ℕ → Draining → Type 0
DrainFits cap d =
    (cap ≤ most_slots) × (d.head.0 ≤ cap - 1) × (d.start + d.drain_len + d.tail_len ≤ cap) × (d.start ≤ d.idx)
    × (d.idx + d.remaining ≤ d.start + d.drain_len)

-- the record of a queue, or of its open drain
abbrev pub state_of : Kept → State
state_of (Shut q) = shut (rec_of q)
state_of (Drains d) = draining (drain_of d)

-- a queue whose drain is open
abbrev pub drained : Draining → State
drained d = draining (drain_of d)

-- of the opening on q: the drain's record
abbrev pub of_opened : Deque → Result (Change Draining) Refusal → Answer
of_opened q a = changing drained (queued q) a

-- of the closing of d: the queue's record
abbrev pub of_closed : Draining → Result (Change Deque) Refusal → Answer
of_closed d a = changing queued (drained d) a
