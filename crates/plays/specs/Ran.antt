-- Calls of the code, one after the other: of none more is known than its contract. Assumes nothing.
use Rattle.std.specs.Prelude.{true, false, List, [], ◌∷◌, ◌++◌, ◌≡◌, ℕ, length, take, drop}
use Rattle.plays.specs.Pieces.{advanced}
use Rattle.plays.specs.Playing.{part_of, play_of}
use Rattle.rules.specs.WholeReplay.{Part, ◌then◌, stay}
use Rattle.plays.specs.declared.playing.Playing.{Playing}
use Rattle.plays.specs.declared.playing.Advanced.{Advanced}

-- what calls of `advance` did together, from y in the slots b on, each given what the last one left: the slots, where
-- it stands, the bytes that it did not use, s at first, and the next of the pieces ss behind them, or that there is
-- none. A call with the buffer t answered r, left the slots b1, and in the buffer t1, at the front, what it wrote
pub data Ran : List ℕ → Playing → List ℕ → List (List ℕ) → Part → Type 0 where
  ran_stop : {b s : List ℕ} {y : Playing} {ss : List (List ℕ)} → Ran b y s ss (stay (play_of b y))
  ran_piece : {b s x : List ℕ} {y : Playing} {ss : List (List ℕ)} {a : Part} (t t1 b1 : List ℕ) (r : Advanced)
      → part_of b1 r (take r.written t1) ≡ advanced (length t) false (s ++ x) (play_of b y)
      → Ran b1 r.playing (drop r.used (s ++ x)) ss a
      → Ran b y s (x ∷ ss) (part_of b1 r (take r.written t1) then a)
  ran_final : {b s : List ℕ} {y : Playing} {a : Part} (t t1 b1 : List ℕ) (r : Advanced)
      → part_of b1 r (take r.written t1) ≡ advanced (length t) true s (play_of b y)
      → Ran b1 r.playing (drop r.used s) [] a → Ran b y s [] (part_of b1 r (take r.written t1) then a)
