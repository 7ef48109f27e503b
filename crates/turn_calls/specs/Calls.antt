-- The calls of the code, in the terms of the rules. Assumes nothing.
use Rattle.conditions.specs.Tests.{test_of}
use Rattle.rules.specs.Asks as asks
use Rattle.rules.specs.Calls.{push_back!, push_front!, pop_front!, pop_back!, pop_front_if!, pop_back_if!, truncate!, truncate_front!, clear!, extend!, prepend!, extend_front!, resize!, insert!, remove!, swap!, swap_remove_front!, swap_remove_back!, retain!, splice!, Op}
use Rattle.rules.specs.Sequences as rules
use Rattle.turn_calls.specs.declared.Edit.{Edit}
use Rattle.turn_calls.specs.declared.Edit.TheVariants.{PushBack, PushFront, Truncate, TruncateFront, Clear, Resize, Insert, Swap, Retain}
use Rattle.turn_calls.specs.declared.Join.{Join}
use Rattle.turn_calls.specs.declared.Join.TheVariants.{Extend, Prepend, ExtendFront, Splice}
use Rattle.turn_calls.specs.declared.Removal.{Removal}
use Rattle.turn_calls.specs.declared.Removal.TheVariants.{PopFront, PopBack, PopFrontIf, PopBackIf, Remove, SwapRemoveFront, SwapRemoveBack}
use Rattle.turn_calls.specs.declared.QueueChange.{QueueChange}
use Rattle.turn_calls.specs.declared.QueueChange.TheVariants.{Editing, Joining, Removing, Fresh, ReadImage, Drain}
use Rattle.turn_calls.specs.declared.Ask.{Ask}
use Rattle.turn_calls.specs.declared.Ask.TheVariants.{Get, Front, Back, Contains, SliceRanges, BinarySearch, PartitionPoint}
use Rattle.turn_calls.specs.declared.QueueCall.{QueueCall}
use Rattle.turn_calls.specs.declared.QueueCall.TheVariants.{Changing, Asking}
use Rattle.turn_calls.specs.declared.DrainCall.{DrainCall}
use Rattle.turn_calls.specs.declared.DrainCall.TheVariants.{Next, NextBack, Close}
use Rattle.turn_calls.specs.declared.AskBoth.{AskBoth}
use Rattle.turn_calls.specs.declared.AskBoth.TheVariants.{Eq, Cmp}
use Rattle.turn_calls.specs.declared.PairCall.{PairCall}
use Rattle.turn_calls.specs.declared.PairCall.TheVariants.{Append, SplitOff, MoveAll, MovePortion, Comparing}
use Rattle.turn_calls.specs.declared.Call.{Call}
use Rattle.turn_calls.specs.declared.Call.TheVariants.{OfQueue, OfDrain, OfBoth}
use Rattle.turn_calls.specs.declared.Side.{Side}
use Rattle.turn_calls.specs.declared.Side.TheVariants.{A, B}

-- a call that hands nothing over
abbrev pub edit_of : Edit → Op
edit_of (PushBack v) = push_back! v
edit_of (PushFront v) = push_front! v
edit_of (Truncate n) = truncate! n
edit_of (TruncateFront n) = truncate_front! n
edit_of Clear = clear!
edit_of (Resize n v) = resize! n v
edit_of (Insert i v) = insert! i v
edit_of (Swap i j) = swap! i j
edit_of (Retain t) = retain! (test_of t)

-- a call with the values vs
abbrev pub join_of : Join → Op
join_of (Extend vs) = extend! vs.now
join_of (Prepend vs) = prepend! vs.now
join_of (ExtendFront vs) = extend_front! vs.now
join_of (Splice s e vs) = splice! s e vs.now

-- a call that hands an element over
abbrev pub removal_of : Removal → Op
removal_of PopFront = pop_front!
removal_of PopBack = pop_back!
removal_of (PopFrontIf t) = pop_front_if! (test_of t)
removal_of (PopBackIf t) = pop_back_if! (test_of t)
removal_of (Remove i) = remove! i
removal_of (SwapRemoveFront i) = swap_remove_front! i
removal_of (SwapRemoveBack i) = swap_remove_back! i

-- a change of a queue
abbrev pub change_of : QueueChange → rules.QueueChange
change_of (Editing k) = rules.op (edit_of k)
change_of (Joining k) = rules.op (join_of k)
change_of (Removing k) = rules.op (removal_of k)
change_of Fresh = rules.freshly
change_of (ReadImage bs) = rules.reading bs.now
change_of (Drain s e) = rules.opening s e

-- a look at it
abbrev pub ask_of : Ask → asks.Ask
ask_of (Get i) = asks.get? i
ask_of Front = asks.front?
ask_of Back = asks.back?
ask_of (Contains x) = asks.contains? x
ask_of (SliceRanges s e) = asks.slice_ranges? s e
ask_of (BinarySearch x) = asks.binary_search? x
ask_of (PartitionPoint t) = asks.partition_point? (test_of t)

-- a call on a queue
abbrev pub queue_call_of : QueueCall → rules.QueueCall
queue_call_of (Changing k) = rules.changing (change_of k)
queue_call_of (Asking a) = rules.asking (ask_of a)

-- a call of an open drain
abbrev pub drain_call_of : DrainCall → rules.DrainCall
drain_call_of Next = rules.next
drain_call_of NextBack = rules.next_back
drain_call_of Close = rules.close

-- a look at two queues
abbrev pub ask_both_of : AskBoth → asks.AskBoth
ask_both_of Eq = asks.eq?
ask_both_of Cmp = asks.cmp?

-- a call on both
abbrev pub pair_call_of : PairCall → rules.PairCall
pair_call_of Append = rules.appending
pair_call_of (SplitOff i) = rules.splitting i
pair_call_of MoveAll = rules.moving
pair_call_of (MovePortion n) = rules.porting n
pair_call_of (Comparing a) = rules.comparing (ask_both_of a)

-- any
abbrev pub call_of : Call → rules.Call
call_of (OfQueue k) = rules.of_queue (queue_call_of k)
call_of (OfDrain k) = rules.of_drain (drain_call_of k)
call_of (OfBoth k) = rules.of_both (pair_call_of k)

abbrev pub side_of : Side → rules.Side
side_of A = rules.side_a
side_of B = rules.side_b

-- a call, and the queue that it is made on
abbrev pub turn_of : Side → Call → rules.Turn
turn_of d k = record { side = side_of d; call = call_of k }
