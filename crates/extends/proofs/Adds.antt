-- What the calls that add elements do: one law for each return. Assumes nothing.
use Rattle.std.proofs.Common.{◌≡◌, ℕ, ◌+◌, ◌<◌, ◌≤◌, ◌-◌, List, length, replicate, take, reverse, refl, ◌∙◌, sym, ap, append-nil, take_all, arith}
use Rattle.std.proofs.lemmas.List.{length-reverse, length-replicate}
use mathlib.Core.Option.{none}
use Rattle.extends.proofs.Asks.{passed_first}
use Rattle.extends.proofs.Behind.{lay-behind_good, lay-before_good, lay_first, none_laid}
use Rattle.queue.proofs.Checks.{told_first_lem}
use Rattle.queue.proofs.Numbers.{some_number}
use Rattle.queue.specs.Answers.{number_of}
use Rattle.rules.proofs.Made.{map-brought}
use Rattle.rules.proofs.Refusals.{some_room, no_room}
use Rattle.rules.proofs.Slots.{length_list_of}
use Rattle.rules.proofs.Choices.{unless-stop}
use Rattle.rules.proofs.Told.{accepts, own-refused}
use Rattle.rules.specs.Joins.{extend_with, prepend, extend_front, resize}
use Rattle.rules.specs.Outcome.{shut, told, do_rule, unchanged, refusal}
use Rattle.rules.specs.Places.{place, step_back}
use Rattle.rules.specs.Records.{Rec, held, stepped}
use Rattle.rules.specs.Refusals.{on_change, room}
use Rattle.rules.specs.Rule.{Rule}
use Rattle.rules.specs.Slots.{lay, list_of}
use Rattle.queue.specs.declared.refusals.Refusal.{Refusal}
use Rattle.queue.specs.declared.refusals.Refusal.TheVariants.{Room}

-- ---- a lent slice

-- all tests of the call were made at once, and one refused
module _ (b : List ℕ) (r : Rec) (vs : List ℕ) (x : Refusal)
    (asked : number_of x ≡ on_change (length b) r (room (length b) (r.len + length vs))) where
  refused_by_lem : (R : Rule) → R.own (length b) r.len ≡ room (length b) (r.len + length vs)
      → (record { refused = number_of x; moved = 0; state = shut r; handed = none }, b) ≡ told (do_rule b r R)
  unfolding do_rule unchanged refusal
  refused_by_lem R own = rw (own, sym asked, unless-stop (number_of x) _ _ (some_number x))

  pub extended_refused : (record { refused = number_of x; moved = 0; state = shut r; handed = none }, b)
      ≡ told (do_rule b r (extend_with vs))
  unfolding extend_with
  extended_refused = refused_by_lem (extend_with vs) refl

  pub prepended_refused : (record { refused = number_of x; moved = 0; state = shut r; handed = none }, b)
      ≡ told (do_rule b r (prepend vs))
  unfolding prepend
  prepended_refused = refused_by_lem (prepend vs) refl

  pub fronted_refused : (record { refused = number_of x; moved = 0; state = shut r; handed = none }, b)
      ≡ told (do_rule b r (extend_front vs))
  unfolding extend_front prepend
  fronted_refused = refused_by_lem (extend_front vs) (rw length-reverse)

-- none refused
module _ (b : List ℕ) (r : Rec) (vs : List ℕ) (placed : r.head ≤ length b - 1) (fits : r.len + length vs ≤ length b)
    (asked : 0 ≡ on_change (length b) r (room (length b) (r.len + length vs))) (r' : Rec) where
  -- it is laid behind the last element
  pub extended : (b' : List ℕ) → b' ≡ lay b (place (length b) r.head r.len) vs
      → r' ≡ stepped r r.head (r.len + length vs)
      → (record { refused = 0; moved = 0; state = shut r'; handed = none }, b') ≡ told (do_rule b r (extend_with vs))
  unfolding extend_with held
  extended b' laid made =
      accepts b r (extend_with vs) (passed_first _ _ _ asked) (some_room _ _ fits) 0 r.head (r.len + length vs) r' none
      _ made refl refl refl refl (rw (laid, map-brought) (lay-behind_good b r.head r.len vs placed fits))

  -- with none nothing is laid
  pub extended_none : length vs ≡ 0 → r' ≡ stepped r r.head (r.len + length vs)
      → (record { refused = 0; moved = 0; state = shut r'; handed = none }, b) ≡ told (do_rule b r (extend_with vs))
  extended_none nil made = rw none_laid at (extended _ refl made)

  -- head steps back by its length, and it is laid from there
  pub prepended : r' ≡ stepped r (step_back (length b) r.head (length vs)) (r.len + length vs)
      → (b' : List ℕ) → b' ≡ lay b r'.head vs
      → (record { refused = 0; moved = 0; state = shut r'; handed = none }, b') ≡ told (do_rule b r (prepend vs))
  unfolding prepend held stepped
  prepended made b' laid =
      let back : r'.head ≡ step_back (length b) r.head (length vs) = ap (λ (q : Rec). q.head) made in
      accepts b r (prepend vs) (passed_first _ _ _ asked) (some_room _ _ fits) 0 _ _ r' none _ made refl refl refl refl
      (rw (laid, back, map-brought) (lay-before_good b r.head r.len vs placed fits))

  pub prepended_none : length vs ≡ 0 → r' ≡ stepped r (step_back (length b) r.head (length vs)) (r.len + length vs)
      → (record { refused = 0; moved = 0; state = shut r'; handed = none }, b) ≡ told (do_rule b r (prepend vs))
  prepended_none nil made = rw none_laid at (prepended made _ refl)

-- reversed
module _ (b : List ℕ) (r : Rec) (vs : List ℕ) (placed : r.head ≤ length b - 1) (fits : r.len + length vs ≤ length b)
    (asked : 0 ≡ on_change (length b) r (room (length b) (r.len + length vs))) (r' : Rec)
    (made : r' ≡ stepped r (step_back (length b) r.head (length vs)) (r.len + length vs)) where
  pub fronted : (b' : List ℕ) → b' ≡ lay b r'.head (reverse vs)
      → (record { refused = 0; moved = 0; state = shut r'; handed = none }, b') ≡ told (do_rule b r (extend_front vs))
  unfolding extend_front
  fronted b' laid =
      prepended b r (reverse vs) placed (rw length-reverse fits) (rw length-reverse asked) r'
      (rw length-reverse made) b' laid

  pub fronted_none : length vs ≡ 0
      → (record { refused = 0; moved = 0; state = shut r'; handed = none }, b) ≡ told (do_rule b r (extend_front vs))
  unfolding extend_front
  fronted_none nil =
      prepended_none b r (reverse vs) placed (rw length-reverse fits) (rw length-reverse asked) r'
      (length-reverse vs ∙ nil) (rw length-reverse made)

-- ---- `resize`

module _ (b : List ℕ) (r : Rec) (n v : ℕ) where
  pub resized_refused : (x : Refusal) → number_of x ≡ on_change (length b) r 0
      → (record { refused = number_of x; moved = 0; state = shut r; handed = none }, b)
      ≡ told (do_rule b r (resize n v))
  resized_refused x e = told_first_lem b r (resize n v) x e

module _ (b : List ℕ) (r : Rec) (n v : ℕ) (first : 0 ≡ on_change (length b) r 0) where
  pub resized_full : length b < n
      → (record { refused = number_of Room; moved = 0; state = shut r; handed = none }, b)
      ≡ told (do_rule b r (resize n v))
  unfolding resize number_of
  resized_full lt = own-refused b r (resize n v) 4 (λ e. omega arith) (sym first) (no_room _ _ lt)

  module _ (placed : r.head ≤ length b - 1) (fits : r.len ≤ length b) (le : n ≤ length b) (r' : Rec)
      (made : r' ≡ stepped r r.head n) where
    -- the first n stay
    pub cut_down : n ≤ r.len
        → (record { refused = 0; moved = 0; state = shut r'; handed = none }, b) ≡ told (do_rule b r (resize n v))
    unfolding resize held
    cut_down less =
        let none_added : n - length (list_of b r.head r.len) ≡ 0 = rw length_list_of (omega arith) in
        accepts b r (resize n v) (sym first) (some_room _ _ le) 0 r.head n r' none b made refl refl refl refl
        (sym (rw (none_added, append-nil) (lay_first b r.head n r.len placed fits less)))

    -- copies of v are laid behind the last element
    pub filled_up : (b' : List ℕ) → r.len < n
        → b' ≡ lay b (place (length b) r.head r.len) (replicate (n - r.len) v)
        → (record { refused = 0; moved = 0; state = shut r'; handed = none }, b') ≡ told (do_rule b r (resize n v))
    unfolding resize held
    filled_up b' more laid =
        let all : take n (list_of b r.head r.len) ≡ list_of b r.head r.len =
        take_all n _ (rw length_list_of (omega arith)) in
        let room : r.len + length (replicate (n - r.len) v) ≤ length b = rw length-replicate (omega arith) in
        accepts b r (resize n v) (sym first) (some_room _ _ le) 0 r.head n r' none _ made refl refl refl refl
        (rw (laid, all, length_list_of) (lay-behind_good b r.head r.len (replicate (n - r.len) v) placed room))

-- one law for each return
pub ruleset extends = (extended_refused, extended, extended_none)

pub ruleset prepends = (prepended_refused, prepended, prepended_none)

pub ruleset fronts = (fronted_refused, fronted, fronted_none)

pub ruleset resizes = (resized_refused, resized_full, cut_down, filled_up)
