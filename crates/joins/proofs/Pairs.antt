-- What the calls on two queues do: one law for each return. b,
-- r: our slots and record; b', r': the other's. Assumes nothing.
use Rattle.std.proofs.Common.{◌≡◌, ℕ, ◌+◌, ◌-◌, ◌≤◌, min, List, length, take, drop, ◌∙◌, sym, ap, take_all, length-drop, arith}
use mathlib.Core.Option.{none, some}
use Rattle.extends.proofs.Behind.{lay-behind_good}
use Rattle.queue.proofs.Numbers.{some_number}
use Rattle.queue.specs.Answers.{number_of}
use Rattle.rules.proofs.Held.{length-held}
use Rattle.rules.proofs.Made.{map-brought}
use Rattle.rules.proofs.Places.{place_good}
use Rattle.rules.proofs.Slots.{lay-own, length_list_of, lay_none, list_of_take_good}
use Rattle.rules.proofs.Choices.{unless-stop}
use Rattle.rules.specs.Ends.{truncate, clear}
use Rattle.rules.specs.Joins.{extend_with}
use Rattle.rules.specs.Makes.{made_with}
use Rattle.rules.specs.Outcome.{rec_after, accepted}
use Rattle.rules.specs.Pairs.{on_appending, told_pair, do_append, appended, on_splitting, do_split, splitted, crossing}
use Rattle.rules.specs.Places.{place}
use Rattle.rules.specs.Records.{Rec, held, stepped, new_rec}
use Rattle.rules.specs.Slots.{lay, list_of}
use Rattle.rules.specs.Choices.{unless}
use Rattle.queue.specs.declared.refusals.Refusal.{Refusal}

-- ---- `append`

module _ (b : List ℕ) (r : Rec) (b' : List ℕ) (r' : Rec) where
  -- refused: the same records, moved 0, and nothing is written
  pub append_refused : (x : Refusal) → number_of x ≡ on_appending (length b) r (length b') r'
      → (record { refused = number_of x; moved = 0; rec = r; other = some r' }, b, b') ≡ told_pair (do_append b r b' r')
  unfolding do_append
  append_refused x asked = rw (sym asked, unless-stop (number_of x) _ _ (some_number x))

  -- accepted: the other's elements, from its first on, are laid behind our last
  pub append_done : 0 ≡ on_appending (length b) r (length b') r' → r.head ≤ length b - 1 → r.len + r'.len ≤ length b
      → (q o : Rec) (c : List ℕ) → q ≡ stepped r r.head (r.len + r'.len) → o ≡ stepped r' 0 0
      → c ≡ lay b (place (length b) r.head r.len) (take r'.len (held b' r'))
      → (record { refused = 0; moved = r'.len; rec = q; other = some o }, c, b') ≡ told_pair (do_append b r b' r')
  unfolding do_append appended crossing accepted rec_after extend_with clear unless stepped held
  append_done none_asked placed fits q o c made made_other laid =
      let all = take_all r'.len (held b' r') (omega (arith, length-held b' r')) in
      let behind = lay-behind_good b r.head r.len (held b' r') placed (omega (arith, length-held b' r')) in
      rw (sym none_asked, map-brought, length_list_of, lay_none, laid, all, behind, made, made_other)

-- ---- `split_off`

module _ (b : List ℕ) (r : Rec) (b' : List ℕ) (s : ℕ) where
  -- refused: the same record, moved 0, no record is made, and nothing is written
  pub split_refused : (x : Refusal) → number_of x ≡ on_splitting (length b) r (length b') s
      → (record { refused = number_of x; moved = 0; rec = r; other = none }, b, b') ≡ told_pair (do_split b r b' s)
  unfolding do_split
  split_refused x asked = rw (sym asked, unless-stop (number_of x) _ _ (some_number x))

  -- accepted: the later elements, of which there are m, are laid from the target's first slot on
  pub split_done : 0 ≡ on_splitting (length b) r (length b') s → r.head ≤ length b - 1 → r.len ≤ length b → s ≤ r.len
      → (m : ℕ) (q o : Rec) (c : List ℕ) → m ≡ r.len - s → q ≡ stepped r r.head s → o ≡ new_rec m
      → c ≡ lay b' 0 (take m (drop s (held b r)))
      → (record { refused = 0; moved = m; rec = q; other = some o }, b, c) ≡ told_pair (do_split b r b' s)
  unfolding do_split splitted crossing accepted rec_after truncate made_with unless stepped held
  split_done none_asked placed fits within m q o c later made made_other laid =
      let all = take_all (r.len - s) (drop s (held b r)) (omega (arith, length-drop s (held b r), length-held b r)) in
      let first : min s r.len ≡ s = omega arith in
      let same : lay b r.head (take s (list_of b r.head r.len)) ≡ b =
      ap (lay b r.head) (list_of_take_good b r.head placed s r.len within fits) ∙ lay-own b r.head s in
      rw (sym none_asked, same, first, length-drop, length_list_of, laid, made, made_other, later, all)

-- one law for each return
pub ruleset appends = (append_refused, append_done, place_good)

pub ruleset splits = (split_refused, split_done)
