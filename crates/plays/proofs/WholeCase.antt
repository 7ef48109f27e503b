-- Document 01's whole case: the lines of a journal of four records, by computing. Assumes nothing.
use mathlib.Core.List.{List, [], ◌∷◌}
use mathlib.Core.Path.{◌≡◌, refl}
use Prim.Native.Nat.{ℕ}
use Rattle.rules.specs.Choices.{whether, ask, unless}
use Rattle.rules.specs.Drains.{opened, good_drain, on_drain, kept_list, closed_head, closed_moved, close_drain}
use Rattle.rules.specs.Ends.{push_back}
use Rattle.rules.specs.Middle.{insert_at}
use Rattle.rules.specs.Images.{big_endian}
use Rattle.rules.specs.Journals.{length_of, some_length, entry_of, word_at, length_at, record_at, closing, do_entry}
use Rattle.rules.specs.Outcome.{unchanged, refusal, rec_after, accepted, do_rule, do_open, do_close}
use Rattle.rules.specs.Places.{wrapped}
use Rattle.rules.specs.Records.{held, stepped, new_rec}
use Rattle.rules.specs.Refusals.{good_head, good_rec, on_slots, on_queue, on_change, in_range, room, on_taking}
use Rattle.rules.specs.Replays.{digits_of, decimal, number_or_none, spaced, line_of, handed_word, rec_or, answer_line, broken_line}
use Rattle.rules.specs.Slots.{read, write}
use Rattle.rules.specs.WholeReplay.{elements, end_line, ◌then◌, ending, play_record, last_line, replayed, starting, replay_of, zeros, replay}

-- `0006 01 01 0000000A`, `0006 01 01 00000014`, `000A 01 05 00000000 00000001`, `000A 01 08 00000005 0000001E`
abbrev pub journal : List ℕ
journal =
    0 ∷ 6 ∷ 1 ∷ 1 ∷ 0 ∷ 0 ∷ 0 ∷ 10 ∷ 0 ∷ 6 ∷ 1 ∷ 1 ∷ 0 ∷ 0 ∷ 0 ∷ 20
    ∷ 0 ∷ 10 ∷ 1 ∷ 5 ∷ 0 ∷ 0 ∷ 0 ∷ 0 ∷ 0 ∷ 0 ∷ 0 ∷ 1 ∷ 0 ∷ 10 ∷ 1 ∷ 8 ∷ 0 ∷ 0 ∷ 0 ∷ 5 ∷ 0 ∷ 0 ∷ 0 ∷ 30 ∷ []

-- `0 0 0 1`, `0 0 0 2`, `0 0 1 1`, `3 0 1 1`, `end 20`
abbrev pub lines : List ℕ
lines =
    48 ∷ 32 ∷ 48 ∷ 32 ∷ 48 ∷ 32 ∷ 49 ∷ 10 ∷ 48 ∷ 32 ∷ 48 ∷ 32 ∷ 48 ∷ 32 ∷ 50 ∷ 10
    ∷ 48 ∷ 32 ∷ 48 ∷ 32 ∷ 49 ∷ 32 ∷ 49 ∷ 10 ∷ 51 ∷ 32 ∷ 48 ∷ 32 ∷ 49 ∷ 32 ∷ 49 ∷ 10
    ∷ 101 ∷ 110 ∷ 100 ∷ 32 ∷ 50 ∷ 48 ∷ 10 ∷ []

pub whole_case : replay journal ≡ lines
unfolding replay zeros replay_of push_back insert_at starting replayed play_record last_line ending end_line elements ◌then◌
    record_at length_at length_of some_length entry_of word_at big_endian closing do_entry do_rule do_open do_close refusal
    rec_after accepted unchanged opened good_drain on_drain kept_list closed_head closed_moved close_drain wrapped held
    stepped new_rec good_head good_rec on_slots on_queue on_change in_range room on_taking digits_of decimal number_or_none
    spaced line_of handed_word rec_or answer_line broken_line read write whether ask unless
whole_case = refl
