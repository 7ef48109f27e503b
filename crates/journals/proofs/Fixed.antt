-- A journal's record as it is read: it is fixed by what is said of it (see queue/proofs/Fixed). Assumes nothing.
use mathlib.Core.Path.{◌≡◌, refl, ap}
use Rattle.std.specs.Prelude.{Option, None, Some, Result, Ok, Err}
use Rattle.journals.specs.Records.{entry_for, of_record}
use Rattle.queue.proofs.Fixed.{fixed}
use Rattle.rules.specs.Journals.{Entry, do_push_back, do_push_front, do_pop_front, do_pop_back, do_drain, do_truncate, do_truncate_front, do_insert, do_remove, Got, taken, broken, cut, ended}
use Rattle.journals.specs.declared.kinds.Operation.{Operation}
use Rattle.journals.specs.declared.kinds.Operation.TheVariants.{PushBack, PushFront, PopFront, PopBack, Drain, Truncate, TruncateFront, Insert, Remove}
use Rattle.journals.specs.declared.records.Fault.{Fault}
use Rattle.journals.specs.declared.records.Fault.TheVariants.{Broken, Cut}
use Rattle.journals.specs.declared.records.Record.{Record}

operation_from : Entry → Operation
operation_from (do_push_back v) = PushBack v
operation_from (do_push_front v) = PushFront v
operation_from do_pop_front = PopFront
operation_from do_pop_back = PopBack
operation_from (do_drain s e) = Drain s e
operation_from (do_truncate n) = Truncate n
operation_from (do_truncate_front n) = TruncateFront n
operation_from (do_insert i v) = Insert i v
operation_from (do_remove i) = Remove i

operation_back : (a : Operation) → operation_from (entry_for a) ≡ a
unfolding operation_from
operation_back (PushBack v) = refl
operation_back (PushFront v) = refl
operation_back PopFront = refl
operation_back PopBack = refl
operation_back (Drain s e) = refl
operation_back (Truncate n) = refl
operation_back (TruncateFront n) = refl
operation_back (Insert i v) = refl
operation_back (Remove i) = refl

pub one_operation : (a b : Operation) → entry_for a ≡ entry_for b → a ≡ b
one_operation = fixed entry_for operation_from operation_back

record_from : Got → Result (Option Record) Fault
record_from (taken o p) = Ok (Some (record { operation = operation_from o; next = p }))
record_from broken = Err Broken
record_from cut = Err Cut
record_from ended = Ok None

record_back : (a : Result (Option Record) Fault) → record_from (of_record a) ≡ a
unfolding record_from
record_back (Ok (Some r)) =
    ap (λ (x : Operation). Ok (Some (record { operation = x; next = r.next }))) (operation_back r.operation)
record_back (Ok None) = refl
record_back (Err Broken) = refl
record_back (Err Cut) = refl

pub one_record : (a b : Result (Option Record) Fault) → of_record a ≡ of_record b → a ≡ b
one_record = fixed of_record record_from record_back
