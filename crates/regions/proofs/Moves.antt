-- What the moves do: one law for each return. b, r: the old slots and
-- record; b', r': the new queue's. Assumes nothing.
use Rattle.std.proofs.Common.{◌≡◌, ℕ, ◌+◌, ◌-◌, ◌≤◌, min, List, length, take, eqb, ltb, sym, take_all, arith}
use mathlib.Core.Option.{none, some}
use Rattle.extends.proofs.Behind.{lay-behind_good}
use Rattle.queue.proofs.Numbers.{some_number}
use Rattle.queue.specs.Answers.{number_of}
use Rattle.rules.proofs.Choices.{unless-stop}
use Rattle.rules.proofs.Held.{length-held}
use Rattle.rules.proofs.Made.{map-brought}
use Rattle.rules.proofs.Places.{place_good}
use Rattle.rules.proofs.Regions.{left-standing, portion-long}
use Rattle.rules.proofs.Slots.{lay_none}
use Rattle.rules.specs.Choices.{unless, whether}
use Rattle.rules.specs.Ends.{clear}
use Rattle.rules.specs.Joins.{extend_with}
use Rattle.rules.specs.Makes.{made_with}
use Rattle.rules.specs.Outcome.{accepted, rec_after}
use Rattle.rules.specs.Pairs.{crossing, told_pair}
use Rattle.rules.specs.Places.{place}
use Rattle.rules.specs.Records.{Rec, held, new_rec, stepped, with_mark}
use Rattle.rules.specs.Regions.{do_move, do_portion, moved_whole, on_moving, on_portion, pass_on, ported}
use Rattle.rules.specs.Slots.{lay}
use Rattle.queue.specs.declared.refusals.Refusal.{Refusal}

-- ---- `move_all`

module _ (b : List ℕ) (r : Rec) (b' : List ℕ) where
  -- refused: the same record, moved 0, no record is made, and nothing is written
  pub move_refused : (x : Refusal) → number_of x ≡ on_moving (length b) r (length b')
      → (record { refused = number_of x; moved = 0; rec = r; other = none }, b, b') ≡ told_pair (do_move b r b')
  unfolding do_move
  move_refused x asked = rw (sym asked, unless-stop (number_of x) _ _ (some_number x))

  -- accepted: all elements are laid from the region's first slot on
  pub move_done : 0 ≡ on_moving (length b) r (length b') → (q o : Rec) (c : List ℕ) → q ≡ stepped r 0 0
      → o ≡ new_rec r.len → c ≡ lay b' 0 (take r.len (held b r))
      → (record { refused = 0; moved = r.len; rec = q; other = some o }, b, c) ≡ told_pair (do_move b r b')
  unfolding do_move moved_whole crossing accepted rec_after clear made_with unless stepped
  move_done none_asked q o c made made_other laid =
      let all = take_all r.len (held b r) (omega (arith, length-held b r)) in
      rw (sym none_asked, lay_none, length-held, laid, all, made, made_other)

-- ---- `move_portion`

module _ (b : List ℕ) (r : Rec) (b' : List ℕ) (r' : Rec) (n : ℕ) where
  -- refused: the same records, moved 0, and nothing is written
  pub portion_refused : (x : Refusal) → number_of x ≡ on_portion (length b) r (length b') r' n
      → (record { refused = number_of x; moved = 0; rec = r; other = some r' }, b, b')
      ≡ told_pair (do_portion b r b' r' n)
  unfolding do_portion
  portion_refused x asked = rw (sym asked, unless-stop (number_of x) _ _ (some_number x))

  -- accepted: the first k are laid behind the new queue's last, and the old queue begins k places on, unless it is
  -- left empty
  pub portion_done : 0 ≡ on_portion (length b) r (length b') r' n → r.head ≤ length b - 1 → r.len ≤ length b
      → r'.head ≤ length b' - 1 → r'.len + min n r.len ≤ length b' → (k : ℕ) (q w o : Rec) (c : List ℕ)
      → k ≡ min n r.len → q ≡ stepped r (whether (eqb (r.len - k) 0) 0 (place (length b) r.head k)) (r.len - k)
      → w ≡ stepped r' r'.head (r'.len + k) → o ≡ with_mark (ltb k r.len) w
      → c ≡ lay b' (place (length b') r'.head r'.len) (take k (held b r))
      → (record { refused = 0; moved = k; rec = q; other = some o }, b, c) ≡ told_pair (do_portion b r b' r' n)
  unfolding do_portion ported crossing accepted rec_after pass_on extend_with unless stepped held
  portion_done none_asked placed fits placed' fits' k q w o c at-k made grown marked laid =
      let lent = take (min n r.len) (held b r) in
      let behind = lay-behind_good b' r'.head r'.len lent placed' (omega (arith, portion-long b r n)) in
      let same = left-standing b r (min n r.len) (record { placed = placed; fits = fits }) in
      rw (sym none_asked, map-brought, portion-long, laid, marked, grown, made, at-k, behind, same)

-- one law for each return
pub ruleset moves = (move_refused, move_done)

pub ruleset portions = (portion_refused, portion_done, place_good)
