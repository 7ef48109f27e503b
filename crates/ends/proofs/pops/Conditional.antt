-- A conditional pop is the pop, where its element meets the test: one law for both ends. Assumes nothing.
use Rattle.std.proofs.Common.{◌≡◌, ℕ, zero, suc, Bool, true, false, eqb, List, length}
use Rattle.std.proofs.Common.{sym, refl, ap, ◌∙◌, suc-ne-zero, arith, ne_eqb}
use mathlib.Core.Option.{none}
use lib.ListN.{get_elem?}
use Rattle.std.specs.Prelude.{Option, Some, None, Result, Ok, Err, IsErrAnd}
use Rattle.ends.specs.Conditional.{nothing, only_if}
use Rattle.queue.proofs.Checks.{same_refusal}
use Rattle.queue.proofs.Numbers.{some_number}
use Rattle.queue.specs.Answers.{rec_of}
use Rattle.elements.specs.Answers.{given, of_handed}
use Rattle.rules.proofs.Told.{accepts_same, first_refused, accepts, alike}
use Rattle.rules.specs.Conditions.{Test, meets, passes}
use Rattle.rules.specs.Ends.{pop_front, pop_front_if, pop_back, pop_back_if}
use Rattle.rules.specs.Outcome.{told, do_rule, shut, Answer}
use Rattle.rules.specs.Places.{place}
use Rattle.rules.specs.Records.{held}
use Rattle.rules.specs.Refusals.{on_change}
use Rattle.rules.specs.Rule.{Rule, after}
use Rattle.rules.specs.Slots.{list_of, read}
use Rattle.rules.specs.Choices.{whether}
use Rattle.queue.specs.declared.records.Deque.{Deque}
use Rattle.queue.specs.declared.refusals.Refusal.{Refusal}
use Rattle.elements.specs.declared.answers.Handed.{Handed}

-- what a pop hands over decides: that, if it meets the test
pub chosen : (t : Test) (q : Deque) (p : Handed Deque) (n : Option ℕ) → p.number ≡ n
    → only_if t q p ≡ whether (passes (meets t) (given n)) p (nothing q)
unfolding only_if passes whether
chosen t q p (Some v) e = rw e
chosen t q p None e = rw e

-- ---- what it answers of a pop is what the conditional pop's rule says

-- S is R where what R hands over meets the test, and elsewhere hands nothing over and changes nothing
pub record Conditional (t : Test) (R S : Rule) (c h n : ℕ) (l : List ℕ) : Type 0 where
  free : R.own c n ≡ 0
  free_too : S.own c n ≡ 0
  head : S.head c h n l ≡ whether (passes (meets t) (R.handed l)) (R.head c h n l) h
  len : S.len n l ≡ whether (passes (meets t) (R.handed l)) (R.len n l) n
  moved : S.moved n l ≡ whether (passes (meets t) (R.handed l)) (R.moved n l) 0
  handed : S.handed l ≡ whether (passes (meets t) (R.handed l)) (R.handed l) none
  list : after S l ≡ whether (passes (meets t) (R.handed l)) (after R l) l

module _ (b : List ℕ) (q : Deque) (t : Test) (R S : Rule)
    (k : Conditional t R S (length b) q.head.0 q.len (held b (rec_of q))) where
  -- a is what a call by R answers, or one by S
  abbrev Answers : Rule → Answer → Type 0
  Answers T a = (a, b) ≡ told (do_rule b (rec_of q) T)

  -- what is asked of the element that R hands over
  fits : Bool
  fits = passes (meets t) (R.handed (held b (rec_of q)))

  met : fits ≡ true → told (do_rule b (rec_of q) R) ≡ told (do_rule b (rec_of q) S)
  unfolding fits whether
  met e =
      alike b (rec_of q) R S (k.free ∙ sym k.free_too) (sym (k.head ∙ rw e)) (sym (k.len ∙ rw e))
      (sym (k.moved ∙ rw e)) (sym (k.handed ∙ rw e)) (sym (k.list ∙ rw e))

  unmet : on_change (length b) (rec_of q) 0 ≡ 0 → fits ≡ false → Answers S (of_handed q (Ok (nothing q)))
  unfolding fits whether
  unmet first e =
      accepts_same b (rec_of q) S first k.free_too (k.head ∙ rw e) (k.len ∙ rw e) (k.moved ∙ rw e)
      (k.handed ∙ rw e) (k.list ∙ rw e)

  -- the tests of slots and record refuse: each rule is refused so
  stopped : (n : ℕ) → on_change (length b) (rec_of q) 0 ≡ suc n → (T : Rule)
      → Answers T (record { refused = suc n; moved = 0; state = shut (rec_of q); handed = none })
  stopped n first T = first_refused b (rec_of q) T (suc n) (suc-ne-zero n) first

  -- an accepted pop passed them
  passed : (n : ℕ) → on_change (length b) (rec_of q) 0 ≡ n → (a : Answer) → a.refused ≡ 0 → Answers R a
      → on_change (length b) (rec_of q) 0 ≡ 0
  passed zero first a z e = first
  passed (suc n) first a z e =
      absurd (suc-ne-zero n (ap (λ (o : Answer × List ℕ). o.0.refused) (stopped n first R ∙ sym e) ∙ z))

  -- past them R's answer has no refusal, and hands over what R does
  seen : on_change (length b) (rec_of q) 0 ≡ 0 → (a : Answer) → Answers R a
      → (a.refused ≡ 0) × (a.handed ≡ R.handed (held b (rec_of q)))
  seen first a e =
      let f = e ∙ sym (accepts b (rec_of q) R first k.free _ _ _ _ _ _ refl refl refl refl refl refl) in
      (ap (λ (o : Answer × List ℕ). o.0.refused) f, ap (λ (o : Answer × List ℕ). o.0.handed) f)

  -- an accepted pop: what `only_if` makes of it is what S answers
  pub decided : (p a : Handed Deque) → a ≡ only_if t q p → Answers R (of_handed q (Ok p))
      → Answers S (of_handed q (Ok a))
  unfolding fits whether
  decided p a is e =
      let first = passed _ refl (of_handed q (Ok p)) refl e in
      let same = is ∙ chosen t q p p.number refl
      ∙ ap (λ o. whether (passes (meets t) o) p (nothing q)) (seen first (of_handed q (Ok p)) e).1 in
      rw same (by fits refl first e)
    where
      by : (c : Bool) → fits ≡ c → on_change (length b) (rec_of q) 0 ≡ 0 → Answers R (of_handed q (Ok p))
          → Answers S (of_handed q (Ok (whether c p (nothing q))))
      by true y first e = e ∙ met y
      by false y first e = unmet first y

  -- a refused one: S is refused the same
  pub refused_too : (a : Result (Handed Deque) Refusal) (x : Refusal) → IsErrAnd a (λ y. y ≡ x)
      → Answers R (of_handed q (Err x)) → Answers S (of_handed q a)
  refused_too a x h e = rw (same_refusal a x h) (go _ refl)
    where
      go : (n : ℕ) → on_change (length b) (rec_of q) 0 ≡ n → Answers S (of_handed q (Err x))
      go zero first = absurd (some_number x (seen first (of_handed q (Err x)) e).0)
      go (suc n) first = e ∙ sym (stopped n first R) ∙ stopped n first S

-- ---- the two ends

either : (t : Bool) (a : ℕ) → a ≡ whether t a a
unfolding whether
either true a = refl
either false a = refl

-- where an element meets the test there is one, and head steps on
steps : (t : Test) (b : List ℕ) (h n : ℕ)
    → whether (passes (meets t) (get_elem? (list_of b h n) 0)) (place (length b) h 1) h
    ≡ whether (passes (meets t) (get_elem? (list_of b h n) 0)) (whether (eqb n 0) h (place (length b) h 1)) h
unfolding read passes whether
steps t b h zero = refl
steps t b h (suc n) = rw (ne_eqb (suc n) 0 (λ e. omega arith))

pub front_condition : (b : List ℕ) (q : Deque) (t : Test)
    → Conditional t pop_front (pop_front_if t) (length b) q.head.0 q.len (held b (rec_of q))
unfolding pop_front pop_front_if held
front_condition b q t = record {
  free = refl;
  free_too = refl;
  head = steps t b q.head.0 q.len;
  len = refl;
  moved = either _ 0;
  handed = refl;
  list = refl;
}

pub back_condition : (b : List ℕ) (q : Deque) (t : Test)
    → Conditional t pop_back (pop_back_if t) (length b) q.head.0 q.len (held b (rec_of q))
unfolding pop_back pop_back_if
back_condition b q t = record {
  free = refl;
  free_too = refl;
  head = either _ q.head.0;
  len = refl;
  moved = either _ 0;
  handed = refl;
  list = refl;
}
