-- The lines of the replay program, as bytes. Assumes nothing.
use Rattle.std.specs.Prelude.{List, [], ◌∷◌, ◌++◌, ℕ, zero, suc, ◌+◌, ◌/◌, ◌%◌, ltb}
use Rattle.std.proofs.Math.Option.{Option, none, some}
use Rattle.rules.specs.Journals.{Entry, do_push_back, do_push_front, do_pop_front, do_pop_back, do_drain, do_truncate, do_truncate_front, do_insert, do_remove}
use Rattle.rules.specs.Outcome.{State, shut, draining, Answer}
use Rattle.rules.specs.Records.{Rec}
use Rattle.rules.specs.Choices.{whether}

abbrev pub space : ℕ
space = 32

abbrev pub newline : ℕ
newline = 10

-- the last k digits of n and all before them, as bytes
unfoldable pub digits_of : ℕ → ℕ → List ℕ
digits_of zero n = []
digits_of (suc k) n = whether (ltb n 10) ((48 + n) ∷ []) (digits_of k (n / 10) ++ (48 + n % 10) ∷ [])

-- n in decimal: no more digits than n + 1
unfoldable pub decimal : ℕ → List ℕ
decimal n = digits_of (suc n) n

-- the number or `none`
unfoldable pub number_or_none : Option ℕ → List ℕ
number_or_none none = 110 ∷ 111 ∷ 110 ∷ 101 ∷ []
number_or_none (some v) = decimal v

-- words, each after a space
unfoldable pub spaced : List (List ℕ) → List ℕ
spaced [] = []
spaced (w ∷ ws) = space ∷ w ++ spaced ws

-- a line: words, parted by one space, and a newline
unfoldable pub line_of : List ℕ → List (List ℕ) → List ℕ
line_of w ws = w ++ (spaced ws ++ newline ∷ [])

-- for 3, 4, 9 the number or `none`
unfoldable pub handed_word : Entry → Option ℕ → List (List ℕ)
handed_word (do_push_back v) a = []
handed_word (do_push_front v) a = []
handed_word do_pop_front a = number_or_none a ∷ []
handed_word do_pop_back a = number_or_none a ∷ []
handed_word (do_drain s e) a = []
handed_word (do_truncate m) a = []
handed_word (do_truncate_front m) a = []
handed_word (do_insert i v) a = []
handed_word (do_remove i) a = number_or_none a ∷ []

-- the record that an answer gives, or r where a drain is open
unfoldable pub rec_or : Rec → State → Rec
rec_or r (shut r') = r'
rec_or r (draining d) = r

-- per record: refusal (0 if none), moved, head, len, and for 3, 4, 9 the number or `none`, parted by one space
unfoldable pub answer_line : Rec → Entry → Answer → List ℕ
answer_line r e a = line_of (decimal a.refused)
    (decimal a.moved ∷ decimal (rec_or r a.state).head ∷ decimal (rec_or r a.state).len
    ∷ handed_word e a.handed)

-- a broken, unknown or cut record: `5 0`, head and len
unfoldable pub broken_line : Rec → List ℕ
broken_line r = line_of (decimal 5) (decimal 0 ∷ decimal r.head ∷ decimal r.len ∷ [])
