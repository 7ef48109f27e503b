-- What a call tells its caller, in plain numbers that are all set: so the contracts leave one possible struct, and one
-- possible number in each word of his record. Where a call is refused, or makes no record, the words stay as they were:
-- `old`. Assumes nothing.
use Rattle.std.specs.Prelude.{Bool, false, List, ℕ}
use Rattle.std.proofs.Math.Option.{Option, none, some}
use Rattle.rules.specs.Looks.{Look, sees, refuses, Order, less, alike, greater}
use Rattle.rules.specs.Makes.{MakeAnswer, MakeOutcome}
use Rattle.rules.specs.Outcome.{Answer, Outcome}
use Rattle.rules.specs.Pairs.{PairAnswer, PairOutcome}
use Rattle.rules.specs.Records.{Rec}
use Rattle.rules.specs.Runs.{TwoRuns}
use Rattle.rules.specs.Search.{Spot, found_at, place_at}
use Rattle.rules.specs.Choices.{unless}
use Rattle.rules.specs.Walks.{Walk, WalkStep}
use Rattle.replies.specs.Records.{rec_words, state_words, walk_words, runs_words}

-- ---- calls that change a list or a record

-- an element: 1 and the number, or 0 and 0
abbrev pub element_in_c : Option ℕ → ℕ × ℕ
element_in_c none = (0, 0)
element_in_c (some v) = (1, v)

-- what such a call says: refusal number, moved count, and what is handed over
abbrev pub Said : Type 0
Said = ℕ × (ℕ × (ℕ × ℕ))

abbrev pub said : ℕ → ℕ → Option ℕ → Said
said refused moved handed = (refused, (moved, element_in_c handed))

abbrev pub said_of : Answer → Said
said_of a = said a.refused a.moved a.handed

-- on a record in the words `old`: what it says, and the words after
abbrev pub answer_in_c : List ℕ → Answer → Said × List ℕ
answer_in_c old a = (said_of a, unless a.refused (state_words a.state) old)

-- the words of a record, if there is one
abbrev pub words_or : List ℕ → Option Rec → List ℕ
words_or old none = old
words_or old (some r) = rec_words r

-- a record that is made
abbrev pub make_in_c : List ℕ → MakeAnswer → Said × List ℕ
make_in_c old m = (said m.refused m.moved none, words_or old m.made)

-- our record and the other's
abbrev pub pair_in_c : List ℕ → List ℕ → PairAnswer → Said × List ℕ × List ℕ
pair_in_c old old' p = (
  said p.refused p.moved none,
  unless p.refused (rec_words p.rec) old,
  unless p.refused (words_or old' p.other) old',
)

-- what the caller sees: the same, and the slots
abbrev pub told_in_c : List ℕ → Outcome → Said × List ℕ × List ℕ
told_in_c old o = let p = answer_in_c old o.answer in (p.0, p.1, o.slots)

abbrev pub make_told_in_c : List ℕ → MakeOutcome → Said × List ℕ × List ℕ
make_told_in_c old m = let p = make_in_c old m.answer in (p.0, p.1, m.slots)

abbrev pub pair_told_in_c : List ℕ → List ℕ → PairOutcome → Said × List ℕ × List ℕ × List ℕ × List ℕ
pair_told_in_c old old' m = let p = pair_in_c old old' m.answer in (p.0, p.1, p.2, m.slots, m.slots')

-- ---- calls that only look

-- 0 and what was found, or the refusal number and a blank
abbrev pub look_in_c : {A B : Type 0} → (A → B) → B → Look A → ℕ × B
look_in_c f blank (sees a) = (0, f a)
look_in_c f blank (refuses n) = (n, blank)

abbrev pub found_in_c : Look (Option ℕ) → ℕ × (ℕ × ℕ)
found_in_c l = look_in_c element_in_c (0, 0) l

abbrev pub truth_in_c : Look Bool → ℕ × Bool
truth_in_c l = look_in_c (λ (t : Bool). t) false l

-- 1 less, 2 equal, 3 greater
abbrev pub order_number : Order → ℕ
order_number less = 1
order_number alike = 2
order_number greater = 3

abbrev pub order_in_c : Look Order → ℕ × ℕ
order_in_c l = look_in_c order_number 0 l

-- the position, and whether x stands there: 1, or 0
abbrev pub spot_numbers : Spot → ℕ × ℕ
spot_numbers (found_at p) = (p, 1)
spot_numbers (place_at p) = (p, 0)

abbrev pub spot_in_c : Look Spot → ℕ × (ℕ × ℕ)
spot_in_c l = look_in_c spot_numbers (0, 0) l

abbrev pub count_in_c : Look ℕ → ℕ × ℕ
count_in_c l = look_in_c (λ (n : ℕ). n) 0 l

-- the places of two runs
abbrev pub runs_in_c : List ℕ → Look TwoRuns → ℕ × List ℕ
runs_in_c old l = look_in_c runs_words old l

-- ---- walks

-- a walk that was begun
abbrev pub begun_in_c : List ℕ → Look Walk → ℕ × List ℕ
begun_in_c old l = look_in_c walk_words old l

-- a step: refusal number, what it gives, and the words of the walk after it
abbrev pub step_in_c : List ℕ → WalkStep → (ℕ × (ℕ × ℕ)) × List ℕ
step_in_c old s = ((s.refused, element_in_c s.gives), unless s.refused (walk_words s.walk) old)
