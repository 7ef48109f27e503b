-- Document 01's twelve marked examples, as cases and as the numbers that the paper gives for each. Assumes nothing.
use Rattle.std.specs.Prelude.{List, ◌∷◌, [], ◌++◌, ℕ}
use Rattle.rules.specs.Calls.{Op, rule, truncate_front!, splice!, retain! }
use Rattle.rules.specs.Conditions.{below}
use Rattle.rules.specs.Images.{image_of}
use Rattle.rules.specs.Journals.{closing}
use Rattle.rules.specs.Looks.{Look, refuses, sees}
use Rattle.rules.specs.Outcome.{State, shut, draining, Outcome, do_rule, do_open}
use Rattle.rules.specs.Records.{Rec, rec_at, new_rec}
use Rattle.rules.specs.Runs.{TwoRuns, look_runs}
use Rattle.rules.specs.Search.{Spot, found_at, place_at, search_for}

-- a call, a drain opened and closed, the runs of a range, a search, an image
pub data Case : Type 0 where
  calling : List ℕ → Rec → Op → Case
  drain_and_close : List ℕ → Rec → ℕ → ℕ → Case
  running : List ℕ → Rec → ℕ → ℕ → Case
  searching : List ℕ → Rec → ℕ → Case
  imaging : List ℕ → Case

-- a record's numbers
unfoldable pub rec_numbers : State → List ℕ
rec_numbers (shut r) = r.head ∷ r.len ∷ []
rec_numbers (draining d) = d.head ∷ d.start ∷ d.drained ∷ d.idx ∷ d.tail ∷ d.remaining ∷ []

-- refusal, moved, head and len, and every slot
unfoldable pub row : Outcome → List ℕ
row o = o.answer.refused ∷ o.answer.moved ∷ (rec_numbers o.answer.state ++ o.slots)

-- refusal, and the two runs' four ends
unfoldable pub runs_row : Look TwoRuns → List ℕ
runs_row (refuses n) = n ∷ []
runs_row (sees t) = 0 ∷ t.front.a ∷ t.front.e ∷ t.back.a ∷ t.back.e ∷ []

-- refusal, 1 if found, and the position
unfoldable pub spot_row : Look Spot → List ℕ
spot_row (refuses n) = n ∷ []
spot_row (sees (found_at p)) = 0 ∷ 1 ∷ p ∷ []
spot_row (sees (place_at p)) = 0 ∷ 0 ∷ p ∷ []

-- what the definitions give for a case
unfoldable pub ruled : Case → List ℕ
ruled (calling b r o) = row (do_rule b r (rule o))
ruled (drain_and_close b r s e) = row (closing (do_open b r s e))
ruled (running b r s e) = runs_row (look_runs b r s e)
ruled (searching b r x) = spot_row (search_for b r x)
ruled (imaging l) = image_of l

-- Q: cap 8, head 6, elements a b c d e, which are 1 2 3 4 5; x y z are 7 8 9
abbrev pub slots_q : List ℕ
slots_q = 3 ∷ 4 ∷ 5 ∷ 91 ∷ 92 ∷ 93 ∷ 1 ∷ 2 ∷ []

abbrev pub rec_q : Rec
rec_q = rec_at 6 5

-- a line of the table: an example, and what the paper says of it
pub record Line : Type 0 where
  pub case : Case
  pub says : List ℕ

abbrev pub line : Case → List ℕ → Line
line k r = record { case = k; says = r }

-- the twelve examples; a row begins with the refusal number, which is 0 in all of them
unfoldable pub examples : List Line
examples =
    -- 1. Q whole: runs 6..8 and 0..3
    line (running slots_q rec_q 0 5) (0 ∷ 6 ∷ 8 ∷ 0 ∷ 3 ∷ [])
    -- 2. drain 1..3 closed: head 0, a d e in slots 0, 1, 2; slots 6, 7 still a, b; moved 1
    ∷ line (drain_and_close slots_q rec_q 1 3) (0 ∷ 1 ∷ 0 ∷ 3 ∷ 1 ∷ 4 ∷ 5 ∷ 91 ∷ 92 ∷ 93 ∷ 1 ∷ 2 ∷ [])
    -- 3. drain 2..3: tie; head 6, a b d e, moved 2
    ∷ line (drain_and_close slots_q rec_q 2 3) (0 ∷ 2 ∷ 6 ∷ 4 ∷ 4 ∷ 5 ∷ 5 ∷ 91 ∷ 92 ∷ 93 ∷ 1 ∷ 2 ∷ [])
    -- 4. drain 0..5: head 0, len 0, moved 0
    ∷ line (drain_and_close slots_q rec_q 0 5) (0 ∷ 0 ∷ 0 ∷ 0 ∷ 3 ∷ 4 ∷ 5 ∷ 91 ∷ 92 ∷ 93 ∷ 1 ∷ 2 ∷ [])
    -- 5. drain 3..5: head 6, len 3, moved 0
    ∷ line (drain_and_close slots_q rec_q 3 5) (0 ∷ 0 ∷ 6 ∷ 3 ∷ 3 ∷ 4 ∷ 5 ∷ 91 ∷ 92 ∷ 93 ∷ 1 ∷ 2 ∷ [])
    -- 6. drain 2..2: unchanged, moved 0
    ∷ line (drain_and_close slots_q rec_q 2 2) (0 ∷ 0 ∷ 6 ∷ 5 ∷ 3 ∷ 4 ∷ 5 ∷ 91 ∷ 92 ∷ 93 ∷ 1 ∷ 2 ∷ [])
    -- 7. truncate_front 3: head 0. 4: head 7. 0: head 3, len 0
    ∷ line (calling slots_q rec_q (truncate_front! 3)) (0 ∷ 0 ∷ 0 ∷ 3 ∷ 3 ∷ 4 ∷ 5 ∷ 91 ∷ 92 ∷ 93 ∷ 1 ∷ 2 ∷ [])
    ∷ line (calling slots_q rec_q (truncate_front! 4)) (0 ∷ 0 ∷ 7 ∷ 4 ∷ 3 ∷ 4 ∷ 5 ∷ 91 ∷ 92 ∷ 93 ∷ 1 ∷ 2 ∷ [])
    ∷ line (calling slots_q rec_q (truncate_front! 0)) (0 ∷ 0 ∷ 3 ∷ 0 ∷ 3 ∷ 4 ∷ 5 ∷ 91 ∷ 92 ∷ 93 ∷ 1 ∷ 2 ∷ [])
    -- 8. splice 1..2 by x y z: a x y z c d e, head 6, moved 3
    ∷ line (calling slots_q rec_q (splice! 1 2 (7 ∷ 8 ∷ 9 ∷ []))) (0 ∷ 3 ∷ 6 ∷ 7 ∷ 8 ∷ 9 ∷ 3 ∷ 4 ∷ 5 ∷ 93 ∷ 1 ∷ 7 ∷ [])
    -- 9. splice 1..4 by x: a x e, head 6, moved 1
    ∷ line (calling slots_q rec_q (splice! 1 4 (7 ∷ []))) (0 ∷ 1 ∷ 6 ∷ 3 ∷ 5 ∷ 4 ∷ 5 ∷ 91 ∷ 92 ∷ 93 ∷ 1 ∷ 7 ∷ [])
    -- 10. slots 7 9 5 7, head 2, len 4, search 7: found at 2
    ∷ line (searching (7 ∷ 9 ∷ 5 ∷ 7 ∷ []) (rec_at 2 4) 7) (0 ∷ 1 ∷ 2 ∷ [])
    -- 11. cap 4, head 0, elements 4 1 6 2, retain below 5: 4 1 2, moved 1, slot 3 still 2
    ∷ line (calling (4 ∷ 1 ∷ 6 ∷ 2 ∷ []) (new_rec 4) (retain! (below 5))) (0 ∷ 1 ∷ 0 ∷ 3 ∷ 4 ∷ 1 ∷ 2 ∷ 2 ∷ [])
    -- 12. image of 1, 2: 0009 01 00000001 00000002
    ∷ line (imaging (1 ∷ 2 ∷ [])) (0 ∷ 9 ∷ 1 ∷ 0 ∷ 0 ∷ 0 ∷ 1 ∷ 0 ∷ 0 ∷ 0 ∷ 2 ∷ [])
    ∷ []
