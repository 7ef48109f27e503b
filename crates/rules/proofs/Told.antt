-- One law for each way in which a call by a rule returns. b, r: the
-- slots and the record that it was given; R: its rule. Assumes nothing.
use mathlib.Core.List.{List}
use mathlib.Core.Logic.{◌≢◌}
use mathlib.Core.Option.{none, Option}
use mathlib.Core.Path.{◌≡◌, ◌∙◌, sym, ap, refl}
use Prim.Native.Nat.{ℕ}
use lib.ListN.{length}
use Rattle.rules.proofs.Held.{stepped_same}
use Rattle.rules.proofs.Refusals.{change_stop, change_go, change_ok}
use Rattle.rules.proofs.Slots.{lay-own}
use Rattle.rules.proofs.Choices.{unless-stop, by_refusals}
use Rattle.rules.specs.Outcome.{Outcome, refusal, shut, told, do_rule, unchanged, accepted, rec_after}
use Rattle.rules.specs.Records.{Rec, stepped, held}
use Rattle.rules.specs.Refusals.{on_change}
use Rattle.rules.specs.Rule.{Rule, after}
use Rattle.rules.specs.Slots.{lay}
use Rattle.rules.specs.Choices.{unless}

module _ (b : List ℕ) (r : Rec) (R : Rule) where
  -- refused: the same record, moved 0, and nothing is written
  stopped : (n : ℕ) → n ≢ 0 → refusal (length b) r R ≡ n
      → (record { refused = n; moved = 0; state = shut r; handed = none }, b) ≡ told (do_rule b r R)
  unfolding do_rule unchanged
  stopped n ne e = rw (e, unless-stop n _ _ ne)

  -- by the tests of slots and record
  pub first_refused : (n : ℕ) → n ≢ 0 → on_change (length b) r 0 ≡ n
      → (record { refused = n; moved = 0; state = shut r; handed = none }, b) ≡ told (do_rule b r R)
  unfolding refusal
  first_refused n ne e = stopped n ne (change_stop (length b) r _ n ne e)

  -- by the call's own tests, after the first
  pub own-refused : (n : ℕ) → n ≢ 0 → on_change (length b) r 0 ≡ 0 → R.own (length b) r.len ≡ n
      → (record { refused = n; moved = 0; state = shut r; handed = none }, b) ≡ told (do_rule b r R)
  unfolding refusal
  own-refused n ne first own = stopped n ne (change_go (length b) r _ first ∙ own)

  -- accepted: a moved count, a record, what is handed over and slots as the rule gives them
  pub accepted_as : (m h n : ℕ) (r' : Rec) (v : Option ℕ) (b' : List ℕ) → r' ≡ stepped r h n
      → h ≡ R.head (length b) r.head r.len (held b r) → n ≡ R.len r.len (held b r)
      → m ≡ R.moved r.len (held b r) → v ≡ R.handed (held b r)
      → b' ≡ lay b h (after R (held b r))
      → (record { refused = 0; moved = m; state = shut r'; handed = v }, b') ≡ told (accepted b r R)
  unfolding accepted rec_after stepped
  accepted_as m h n r' v b' made at_head at_len at_moved at-handed at_slots =
      rw (at_slots, made, at-handed, at_moved, at_len, at_head)

  module _ (first : on_change (length b) r 0 ≡ 0) (own : R.own (length b) r.len ≡ 0) where
    pub accepts : (m h n : ℕ) (r' : Rec) (v : Option ℕ) (b' : List ℕ) → r' ≡ stepped r h n
        → h ≡ R.head (length b) r.head r.len (held b r) → n ≡ R.len r.len (held b r)
        → m ≡ R.moved r.len (held b r) → v ≡ R.handed (held b r)
        → b' ≡ lay b h (after R (held b r))
        → (record { refused = 0; moved = m; state = shut r'; handed = v }, b') ≡ told (do_rule b r R)
    unfolding do_rule refusal unless
    accepts m h n r' v b' made at_head at_len at_moved at-handed at_slots =
        rw (change_go (length b) r _ first ∙ own)
        (accepted_as m h n r' v b' made at_head at_len at_moved at-handed at_slots)

    -- accepted, and there was nothing to do
    pub accepts_same : R.head (length b) r.head r.len (held b r) ≡ r.head → R.len r.len (held b r) ≡ r.len
        → R.moved r.len (held b r) ≡ 0
        → R.handed (held b r) ≡ none → after R (held b r) ≡ held b r
        → (record { refused = 0; moved = 0; state = shut r; handed = none }, b) ≡ told (do_rule b r R)
    unfolding held
    accepts_same same_head same_len none_moved none-handed same-list =
        accepts 0 r.head r.len r none b (sym (stepped_same (length b) r (change_ok (length b) r 0 first).0))
        (sym same_head) (sym same_len) (sym none_moved) (sym none-handed)
        (sym (ap (lay b r.head) same-list ∙ lay-own b r.head r.len))

-- two rules that say the same of a queue answer alike and leave the same slots
pub alike : (b : List ℕ) (r : Rec) (R S : Rule) → R.own (length b) r.len ≡ S.own (length b) r.len
    → R.head (length b) r.head r.len (held b r) ≡ S.head (length b) r.head r.len (held b r)
    → R.len r.len (held b r) ≡ S.len r.len (held b r)
    → R.moved r.len (held b r) ≡ S.moved r.len (held b r) → R.handed (held b r) ≡ S.handed (held b r)
    → after R (held b r) ≡ after S (held b r)
    → told (do_rule b r R) ≡ told (do_rule b r S)
unfolding do_rule refusal accepted rec_after
alike b r R S own head len moved handed list =
    by_refusals (refusal (length b) r R) (refusal (length b) r S) (ap (on_change (length b) r) own)
    (λ (o p : Outcome). told o ≡ told p) (unchanged b (shut r)) (unchanged b (shut r))
    (λ z. rw (head, len, moved, handed, list)) (λ n. refl)
