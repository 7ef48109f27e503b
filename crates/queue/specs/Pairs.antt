-- The answers of the calls on two queues, in the terms of the rules. Assumes nothing.
use Rattle.std.proofs.Math.Option.{none, some}
use Rattle.std.specs.Prelude.{Result, Ok, Err}
use Rattle.queue.specs.Answers.{rec_of, number_of}
use Rattle.rules.specs.Pairs.{PairAnswer}
use Rattle.queue.specs.declared.records.Deque.{Deque}
use Rattle.queue.specs.declared.refusals.Refusal.{Refusal}
use Rattle.queue.specs.declared.answers.Change.{Change}
use Rattle.queue.specs.declared.answers.Pair.{Pair}

-- an accepted answer on two queues: moved count, our record and the other's
abbrev pub paired : Change Pair → PairAnswer
paired c = record { refused = 0; moved = c.moved; rec = rec_of c.after.queue; other = some (rec_of c.after.other) }

-- of `append` or a portion, made on q and o: refused, both stand and nothing moved
abbrev pub of_joined : Deque → Deque → Result (Change Pair) Refusal → PairAnswer
of_joined q o (Ok c) = paired c
of_joined q o (Err x) = record { refused = number_of x; moved = 0; rec = rec_of q; other = some (rec_of o) }

-- of `split_off` or a whole move, made on q: refused, q stands and no record is made
abbrev pub of_split : Deque → Result (Change Pair) Refusal → PairAnswer
of_split q (Ok c) = paired c
of_split q (Err x) = record { refused = number_of x; moved = 0; rec = rec_of q; other = none }
