-- A replay in pieces: the bytes come one piece after the other, the lines go out through a buffer. Assumes nothing.
use Rattle.std.specs.Prelude.{Bool, true, false, List, [], ◌∷◌, ◌++◌, ◌≡◌, ℕ, zero, suc, ◌+◌, ◌-◌, ltb, length, drop}
use Rattle.std.proofs.Math.Option.{Option, none, some}
use Rattle.std.proofs.Math.ListN.{get_elem?}
use Rattle.rules.specs.Choices.{whether}
use Rattle.rules.specs.Journals.{Got, record_at, taken, broken, cut, ended}
use Rattle.rules.specs.Replays.{decimal, newline, space}
use Rattle.rules.specs.WholeReplay.{Stage, in_records, in_elements, over, Play, Part, ◌then◌, stay, break_off, ending, play_record, elements, end_word}

-- the longest line of a record
abbrev pub longest_line : ℕ
longest_line = 105

-- the last line is begun
unfoldable pub begin_last : Play → Part
begin_last y = ending y (in_elements 0) end_word

-- what stands at position p is done; of a record cut short, and of the end, nothing is known while more bytes may come
unfoldable pub do_got : Bool → ℕ → Play → Got → Part
do_got last p y (taken e q) = play_record y e (q - p)
do_got last p y broken = break_off y then begin_last y
do_got last p y cut = whether last (break_off y then begin_last y) (stay y)
do_got last p y ended = whether last (begin_last y) (stay y)

-- the next word of the last line, where an element or none is left: it comes after a space, or the line ends
unfoldable pub word_of : Play → ℕ → Option ℕ → Part
word_of y i none = ending y over (newline ∷ [])
word_of y i (some v) = ending y (in_elements (i + 1)) (space ∷ decimal v)

-- the next record's line, or the next word of the last line
unfoldable pub next : Bool → List ℕ → ℕ → Play → Stage → Part
next last s p y in_records = do_got last p y (record_at s p)
next last s p y (in_elements i) = word_of y i (get_elem? (elements y.slots y.queue) i)
next last s p y over = stay y

-- one step, in a buffer that has room for m bytes: none where a line may not fit
unfoldable pub step : ℕ → Bool → List ℕ → ℕ → Play → Part
step m last s p y = whether (ltb m longest_line) (stay y) (next last s p y y.stage)

-- k steps
unfoldable pub steps : ℕ → ℕ → Bool → List ℕ → ℕ → Play → Part
steps zero m last s p y = stay y
steps (suc k) m last s p y =
    let t = step m last s p y in
    t then steps k (m - length t.written) last s (p + t.used) t.play

-- one call over the bytes s, with a buffer of m bytes: a step writes at least one
unfoldable pub advanced : ℕ → Bool → List ℕ → Play → Part
advanced m last s y = steps m m last s 0 y

-- ---- many calls

-- pieces, one behind the other
unfoldable pub joined : List (List ℕ) → List ℕ
joined [] = []
joined (s ∷ ss) = s ++ joined ss

-- what calls do together, from y on, each from where the last one stands: a call c has a buffer of any size m, and
-- is given the bytes that the last one left, s at first, and the next of the pieces ss behind them, or is told that
-- there is none
pub data Calls : Play → List ℕ → List (List ℕ) → Part → Type 0 where
  stop : {y : Play} {s : List ℕ} {ss : List (List ℕ)} → Calls y s ss (stay y)
  piece : {y : Play} {s x : List ℕ} {ss : List (List ℕ)} {a : Part} (m : ℕ) (c : Part)
      → c ≡ advanced m false (s ++ x) y → Calls c.play (drop c.used (s ++ x)) ss a → Calls y s (x ∷ ss) (c then a)
  final : {y : Play} {s : List ℕ} {a : Part} (m : ℕ) (c : Part) → c ≡ advanced m true s y
      → Calls c.play (drop c.used s) [] a → Calls y s [] (c then a)
