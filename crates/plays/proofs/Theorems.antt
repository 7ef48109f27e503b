-- THE LINES OF A JOURNAL DO NOT DEPEND ON ITS PIECES: calls that come to the last line's end have together done
-- what the rules' replay of the whole journal does, whatever its pieces and the buffers were. Assumes nothing.
use mathlib.Core.Bool.{true, false}
use mathlib.Core.List.{List, [], ◌++◌, append_assoc}
use mathlib.Core.Logic.{◌≢◌}
use mathlib.Core.Path.{◌≡◌, refl, sym, ◌∙◌, ap, subst}
use Prim.Native.Nat.{ℕ, ◌≤◌}
use lib.ListN.{length, take, drop}
use Rattle.plays.proofs.Quiet.{call_writes}
use Rattle.plays.proofs.Rest.{rest, rest_at, call_leaves}
use Rattle.plays.specs.Pieces.{advanced, longest_line, joined, Calls, stop, piece, final}
use Rattle.plays.specs.Playing.{play_of, part_of}
use Rattle.plays.specs.Ran.{Ran, ran_stop, ran_piece, ran_final}
use Rattle.rules.specs.WholeReplay.{over, Play, Part, ◌then◌, stay, starting, replay_of, replay, zeros}
use Rattle.plays.specs.declared.playing.Playing.{Playing}

-- what calls do that end the last line is all that was to be done
all_of_it : {y : Play} {s : List ℕ} {ss : List (List ℕ)} {a : Part} → Calls y s ss a → a.play.stage ≡ over
    → rest (s ++ joined ss) 0 y ≡ a
unfolding stay ◌then◌ joined
all_of_it (stop {y} {s} {ss}) e = ap (rest_at (s ++ joined ss) 0 y) e
all_of_it (piece {y} {s} {x} {ss} {a} m c is p) e =
    ap (λ (l : List ℕ). rest l 0 y) (sym (append_assoc s x (joined ss)))
    ∙ subst
    (λ (d : Part). rest (s ++ x ++ joined ss) 0 y ≡ d then rest (drop d.used (s ++ x) ++ joined ss) 0 d.play)
    (sym is) (call_leaves false (s ++ x) (joined ss) (λ z. absurd z) m y) ∙ ap (λ (z : Part). c then z) (all_of_it p e)
all_of_it (final {y} {s} {a} m c is p) e =
    subst (λ (d : Part). rest (s ++ []) 0 y ≡ d then rest (drop d.used s ++ []) 0 d.play) (sym is)
    (call_leaves true s [] (λ z. refl) m y) ∙ ap (λ (z : Part). c then z) (all_of_it p e)

-- From an empty queue in any slots b on: calls over any pieces, with buffers of any sizes, that come to the last
-- line's end, did what the replay of the joined pieces does: the same lines, slots and record, the same number
-- of records played and of bytes used, and the same word on whether a record was broken.
pub any_pieces : (b : List ℕ) (ss : List (List ℕ)) (a : Part) → Calls (starting b) [] ss a → a.play.stage ≡ over
    → replay_of b (joined ss) ≡ a
unfolding replay_of starting
any_pieces b ss a p e = all_of_it p e

-- And they come to that end: told that no more bytes come, and with room for a line, each
-- call writes at least a byte until the last line is ended.
pub goes_on : (m : ℕ) (s : List ℕ) (y : Play) → longest_line ≤ m → y.stage ≢ over
    → 1 ≤ length (advanced m true s y).written
goes_on m s y room ne = call_writes m s y room ne

-- ---- the code

-- what calls of the code did is what such calls of the rules do
are_calls : {b s : List ℕ} {y : Playing} {ss : List (List ℕ)} {a : Part} → Ran b y s ss a → Calls (play_of b y) s ss a
are_calls ran_stop = stop
are_calls (ran_piece t t1 b1 r e p) = piece (length t) (part_of b1 r (take r.written t1)) e (are_calls p)
are_calls (ran_final t t1 b1 r e p) = final (length t) (part_of b1 r (take r.written t1)) e (are_calls p)

-- THE CODE IS IN THE THEOREM: calls of `advance`, from `start` in any slots b on, that come to the
-- last line's end, wrote together what the rules' replay of the journal writes, and left its slots and record.
pub code_replays : (b : List ℕ) (y : Playing) (ss : List (List ℕ)) (a : Part) → play_of b y ≡ starting b
    → Ran b y [] ss a → a.play.stage ≡ over → replay_of b (joined ss) ≡ a
code_replays b y ss a at-start r e =
    any_pieces b ss a (subst (λ (x : Play). Calls x [] ss a) at-start (are_calls r)) e

-- In 16,000 slots of zeros it is what the replay program writes.
pub program_writes : (y : Playing) (ss : List (List ℕ)) (a : Part) → play_of zeros y ≡ starting zeros
    → Ran zeros y [] ss a → a.play.stage ≡ over → replay (joined ss) ≡ a.written
unfolding replay
program_writes y ss a at-start r e = ap (λ (x : Part). x.written) (code_replays zeros y ss a at-start r e)
