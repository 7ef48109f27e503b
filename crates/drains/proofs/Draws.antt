-- What opening a drain and handing over from it do: one law for each return. Assumes nothing.
use mathlib.Core.List.{List}
use mathlib.Core.Logic.{◌≢◌}
use mathlib.Core.Option.{none, some}
use mathlib.Core.Path.{◌≡◌, ◌∙◌, ap, refl, sym}
use Prim.Native.Nat.{ℕ, suc, ◌-◌, ◌+◌}
use native.Mathlib.Omega.{arith}
use lib.ListN.{length, get_or}
use Rattle.queue.proofs.Checks.{same_refusal}
use Rattle.queue.proofs.DrainChecks.{drain_refused}
use Rattle.queue.proofs.Numbers.{some_number}
use Rattle.std.specs.Prelude.{Result, IsErrAnd}
use Rattle.queue.specs.Answers.{rec_of, number_of}
use Rattle.queue.specs.Drains.{drain_of, of_opened}
use Rattle.elements.specs.Answers.{of_drawn}
use Rattle.rules.proofs.Refusals.{change_stop, change_go}
use Rattle.rules.proofs.Choices.{unless-stop, unless-go}
use Rattle.rules.specs.Drains.{Drain, opened, on_drain, from_front, from_back, as_opened}
use Rattle.rules.specs.Outcome.{told, do_open, unchanged, draining, Outcome, hands_over}
use Rattle.rules.specs.Outcome.{do_next, next_of, do_next_back, next_back_of}
use Rattle.rules.specs.Records.{Rec, held}
use Rattle.rules.specs.Refusals.{on_change, in_range, on_taking}
use Rattle.rules.specs.Choices.{unless}
use Rattle.queue.specs.declared.refusals.Refusal.{Refusal}
use Rattle.queue.specs.declared.answers.Change.{Change}
use Rattle.queue.specs.declared.records.Deque.{Deque}
use Rattle.queue.specs.declared.records.Drain.{Drain as Draining}
use Rattle.elements.specs.declared.answers.Handed.{Handed}

-- ---- opening

module _ (b : List ℕ) (r : Rec) (s e : ℕ) where
  -- refused by the tests of slots and record
  pub open_first : (x : Refusal) → number_of x ≡ on_change (length b) r 0 → number_of x ≡ on_taking (length b) r s e
  unfolding on_taking
  open_first x z = sym (change_stop (length b) r _ _ (some_number x) (sym z))

  module _ (first : on_change (length b) r 0 ≡ 0) where
    -- by the range
    pub open_range : (x : Refusal) → number_of x ≡ in_range r.len s e 0 → number_of x ≡ on_taking (length b) r s e
    unfolding on_taking
    open_range x z = z ∙ sym (change_go (length b) r _ first)

    -- accepted: the drain's record, and nothing is written
    pub opens : (d : Drain) → in_range r.len s e 0 ≡ 0 → d ≡ opened r s e
        → (record { refused = 0; moved = 0; state = draining d; handed = none }, b) ≡ told (do_open b r s e)
    unfolding on_taking do_open unchanged
    opens d ranged made = rw (change_go (length b) r _ first ∙ ranged, unless-go, made)

-- they refuse: the same record, and nothing is written
pub open_refused : (b : List ℕ) (q : Deque) (s e : ℕ) (a : Result (Change Draining) Refusal) (x : Refusal)
    → IsErrAnd a (λ y. y ≡ x) → number_of x ≡ on_taking (length b) (rec_of q) s e
    → (of_opened q a, b) ≡ told (do_open b (rec_of q) s e)
unfolding do_open unchanged
open_refused b q s e a x h z = rw (same_refusal a x h, sym z, unless-stop (number_of x) _ _ (some_number x))

-- ---- handing over

module _ (b : List ℕ) (d : Drain) (first : on_drain (length b) d ≡ 0) where
  -- a call that does `step n` where n elements remain
  module _ (step : ℕ → Outcome) where
    -- none remains: Nothing, without change
    draws_none : step 0 ≡ unchanged b (draining d) 0 → d.remaining ≡ 0
        → (record { refused = 0; moved = 0; state = draining d; handed = none }, b)
        ≡ told (unless (on_drain (length b) d) (step d.remaining) (unchanged b (draining d) (on_drain (length b) d)))
    unfolding unchanged unless
    draws_none none_done z = rw (first, ap step z, none_done)

    -- v, the element at position i of the list in the slots, is handed over; r is the record that it was read by
    draws_some : (i v : ℕ) (d' : Drain)
        → step (suc (d.remaining - 1)) ≡ hands_over b d' (get_or (held b (as_opened d)) i 0)
        → d.remaining ≢ 0 → (r : Rec) → r ≡ as_opened d → v ≡ get_or (held b r) i 0
        → (record { refused = 0; moved = 0; state = draining d'; handed = some v }, b)
        ≡ told (unless (on_drain (length b) d) (step d.remaining) (unchanged b (draining d) (on_drain (length b) d)))
    unfolding hands_over unless
    draws_some i v d' done some_left r whole is =
        let many : d.remaining ≡ suc (d.remaining - 1) = omega arith in
        rw (first, is, whole, ap step many, done)

  -- `next` and `next_back` by these
  pub next_none : d.remaining ≡ 0
      → (record { refused = 0; moved = 0; state = draining d; handed = none }, b) ≡ told (do_next b d)
  unfolding do_next next_of
  next_none = draws_none (next_of b d) refl

  pub next-back_none : d.remaining ≡ 0
      → (record { refused = 0; moved = 0; state = draining d; handed = none }, b) ≡ told (do_next_back b d)
  unfolding do_next_back next_back_of
  next-back_none = draws_none (next_back_of b d) refl

  pub next_some : (v : ℕ) (d' : Drain) → d' ≡ from_front d → d.remaining ≢ 0
      → (r : Rec) → r ≡ as_opened d → v ≡ get_or (held b r) d.idx 0
      → (record { refused = 0; moved = 0; state = draining d'; handed = some v }, b) ≡ told (do_next b d)
  unfolding do_next next_of
  next_some v d' made = rw made (draws_some (next_of b d) d.idx v (from_front d) refl)

  pub next-back_some : (v : ℕ) (d' : Drain) → d' ≡ from_back d → d.remaining ≢ 0
      → (r : Rec) → r ≡ as_opened d → v ≡ get_or (held b r) (d.idx + (d.remaining - 1)) 0
      → (record { refused = 0; moved = 0; state = draining d'; handed = some v }, b) ≡ told (do_next_back b d)
  unfolding do_next_back next_back_of
  next-back_some v d' made = rw made (draws_some (next_back_of b d) (d.idx + (d.remaining - 1)) v (from_back d) refl)

-- refused by the tests: o is what the call would do
pub draw_refused : (b : List ℕ) (d : Draining) (o : Outcome) (a : Result (Handed Draining) Refusal) (x : Refusal)
    → IsErrAnd a (λ y. y ≡ x) → number_of x ≡ on_drain (length b) (drain_of d)
    → (of_drawn d a, b) ≡ told (unless (on_drain (length b) (drain_of d)) o
    (unchanged b (draining (drain_of d)) (on_drain (length b) (drain_of d))))
draw_refused b d o a x h e = rw (same_refusal a x h) (drain_refused b (drain_of d) o x e)
