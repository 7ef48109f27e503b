-- The records of the code, in the terms of the rules. Assumes nothing.
use Rattle.std.specs.Prelude.{ℕ, Option, None, Some, Result, Ok, Err}
use Rattle.rules.specs.Journals.{Entry, do_push_back, do_push_front, do_pop_front, do_pop_back, do_drain, do_truncate, do_truncate_front, do_insert, do_remove, Got, taken, broken, cut, ended}
use Rattle.journals.specs.declared.kinds.Kind.{Kind}
use Rattle.journals.specs.declared.kinds.Kind.TheVariants as kind
use Rattle.journals.specs.declared.kinds.Operation.{Operation}
use Rattle.journals.specs.declared.kinds.Operation.TheVariants.{PushBack, PushFront, PopFront, PopBack, Drain, Truncate, TruncateFront, Insert, Remove}
use Rattle.journals.specs.declared.records.Fault.{Fault}
use Rattle.journals.specs.declared.records.Fault.TheVariants.{Broken, Cut}
use Rattle.journals.specs.declared.records.Record.{Record}

-- the operation that the rules speak of
abbrev pub entry_for : Operation → Entry
entry_for (PushBack v) = do_push_back v
entry_for (PushFront v) = do_push_front v
entry_for PopFront = do_pop_front
entry_for PopBack = do_pop_back
entry_for (Drain s e) = do_drain s e
entry_for (Truncate n) = do_truncate n
entry_for (TruncateFront n) = do_truncate_front n
entry_for (Insert i v) = do_insert i v
entry_for (Remove i) = do_remove i

-- the byte that names a kind of operation
abbrev pub code_of : Kind → ℕ
code_of kind.PushBack = 1
code_of kind.PushFront = 2
code_of kind.PopFront = 3
code_of kind.PopBack = 4
code_of kind.Drain = 5
code_of kind.Truncate = 6
code_of kind.TruncateFront = 7
code_of kind.Insert = 8
code_of kind.Remove = 9

-- how many operands it takes
abbrev pub operands_of : Kind → ℕ
operands_of kind.PopFront = 0
operands_of kind.PopBack = 0
operands_of kind.Drain = 2
operands_of kind.Insert = 2
operands_of _ = 1

-- what stands at a position of the bytes
abbrev pub of_record : Result (Option Record) Fault → Got
of_record (Ok (Some r)) = taken (entry_for r.operation) r.next
of_record (Ok None) = ended
of_record (Err Broken) = broken
of_record (Err Cut) = cut
