-- A whole replay, from a journal's first byte to the last line. Assumes nothing.
use Rattle.std.specs.Prelude.{Bool, false, true, ◌||◌, List, [], ◌∷◌, ◌++◌, map, ℕ, zero, suc, ◌+◌, ◌-◌, length, replicate}
use Rattle.rules.specs.Journals.{Entry, record_at, taken, do_entry, broken, cut, ended}
use Rattle.rules.specs.Records.{Rec, held, new_rec}
use Rattle.rules.specs.Refusals.{on_queue}
use Rattle.rules.specs.Replays.{answer_line, broken_line, decimal, line_of, rec_or}
use Rattle.rules.specs.Choices.{unless}

-- the last line's first word
abbrev pub end_word : List ℕ
end_word = 101 ∷ 110 ∷ 100 ∷ []

-- the elements that the last line names: those of the queue, none where a look at it is refused
unfoldable pub elements : List ℕ → Rec → List ℕ
elements b r = unless (on_queue (length b) r 0) (held b r) []

-- `end` and the elements, each after a space
unfoldable pub end_line : List ℕ → Rec → List ℕ
end_line b r = line_of end_word (map decimal (elements b r))

-- where a replay stands: in the records, in the last line before element i, or behind it
pub data Stage : Type 0 where
  in_records over : Stage
  in_elements : ℕ → Stage

-- a replay: its slots, its record, and where it stands
pub record Play : Type 0 where
  pub slots : List ℕ
  pub queue : Rec
  pub stage : Stage

-- what a replay, or a part of it, does: where it stands after, how many bytes it used,
-- how many records it played, whether the next one was broken, and what it wrote
pub record Part : Type 0 where
  pub play : Play
  pub used : ℕ
  pub records : ℕ
  pub broke : Bool
  pub written : List ℕ

infixr 20 ◌then◌
-- one part and then the next
unfoldable pub ◌then◌ : Part → Part → Part
a then b = record {
  play = b.play;
  used = a.used + b.used;
  records = a.records + b.records;
  broke = a.broke || b.broke;
  written = a.written ++ b.written;
}

-- nothing is done
unfoldable pub stay : Play → Part
stay y = record { play = y; used = 0; records = 0; broke = false; written = [] }

-- the line of a broken, unknown or cut record is written
unfoldable pub break_off : Play → Part
break_off y = record { play = y; used = 0; records = 0; broke = true; written = broken_line y.queue }

-- w is written of the last line, which is then at stage g
unfoldable pub ending : Play → Stage → List ℕ → Part
ending y g w = record {
  play = record { slots = y.slots; queue = y.queue; stage = g };
  used = 0;
  records = 0;
  broke = false;
  written = w;
}

-- a record of n bytes is played: what its operation does to the queue, and its line
unfoldable pub play_record : Play → Entry → ℕ → Part
play_record y e n =
    let o = do_entry y.slots y.queue e in
    record {
      play = record { slots = o.slots; queue = rec_or y.queue o.answer.state; stage = in_records };
      used = n;
      records = 1;
      broke = false;
      written = answer_line y.queue e o.answer;
    }

-- the last line at once
unfoldable pub last_line : Play → Part
last_line y = ending y over (end_line y.slots y.queue)

-- what is done for the bytes s from position p on: at most k records, and then the last line
unfoldable pub replayed : ℕ → List ℕ → ℕ → Play → Part
replayed zero s p y = last_line y
replayed (suc k) s p y = elim (record_at s p) [
  | taken e q ↦ (let t = play_record y e (q - p) in t then replayed k s q t.play)
  | broken ↦ break_off y then last_line y
  | cut ↦ break_off y then last_line y
  | ended ↦ last_line y
]

-- an empty queue in the slots b, before a journal's first byte
unfoldable pub starting : List ℕ → Play
starting b = record { slots = b; queue = new_rec 0; stage = in_records }

-- what a journal s does to a queue in the slots b: each record takes at least a byte
unfoldable pub replay_of : List ℕ → List ℕ → Part
replay_of b s = replayed (length s) s 0 (starting b)

-- the number of slots of the replay program
abbrev pub most_played : ℕ
most_played = 16000

-- the slots of the replay program: they are its own, and zero at first
unfoldable pub zeros : List ℕ
zeros = replicate most_played 0

-- what the replay program writes for a journal s
unfoldable pub replay : List ℕ → List ℕ
replay s = (replay_of zeros s).written
