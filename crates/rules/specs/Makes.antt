-- The calls that make a record: a fresh one, and image reading. Assumes nothing.
use Rattle.std.specs.Prelude.{List, [], ℕ, length}
use Rattle.std.proofs.Math.Option.{Option, none, some}
use Rattle.rules.specs.Images.{laid_out, how_many, elements_in}
use Rattle.rules.specs.Records.{Rec, new_rec}
use Rattle.rules.specs.Refusals.{on_slots, on_layout, room}
use Rattle.rules.specs.Slots.{lay}
use Rattle.rules.specs.Choices.{unless}

-- what such a call tells its caller: the refusal number, 0 if
-- there is none; the moved count; the record, none when refused
pub record MakeAnswer : Type 0 where
  pub refused : ℕ
  pub moved : ℕ
  pub made : Option Rec

-- what it answers, what it leaves in the slots, and what entered by it
pub record MakeOutcome : Type 0 where
  pub answer : MakeAnswer
  pub slots : List ℕ
  pub entered : List ℕ

-- refused with n: no record is made, and nothing is written
unfoldable pub none_made : List ℕ → ℕ → MakeOutcome
none_made b n = record { answer = record { refused = n; moved = 0; made = none }; slots = b; entered = [] }

-- the list l stands from slot 0 on; every other slot keeps its old value
unfoldable pub made_with : List ℕ → List ℕ → MakeOutcome
made_with b l = record {
  answer = record { refused = 0; moved = 0; made = some (new_rec (length l)) };
  slots = lay b 0 l;
  entered = l;
}

-- fresh: head 0, len 0
unfoldable pub fresh : List ℕ → MakeOutcome
fresh b = let n = on_slots (length b) 0 in unless n (made_with b []) (none_made b n)

-- image reading takes bare slots, and refuses in the order 1, 5, 4
unfoldable pub read_image : List ℕ → List ℕ → MakeOutcome
read_image b s =
    let n = on_slots (length b) (on_layout (laid_out s) (room (length b) (how_many s))) in
    unless n (made_with b (elements_in s)) (none_made b n)

-- what the caller sees: the answer, and the slots
abbrev pub told_make : MakeOutcome → MakeAnswer × List ℕ
told_make m = (m.answer, m.slots)
