-- The tests of slots and drain record: what each outcome says, and what it tells a call. Assumes nothing.
use mathlib.Core.Bool.{Bool, not, true, false}
use mathlib.Core.List.{List}
use mathlib.Core.Option.{none}
use mathlib.Core.Path.{◌≡◌, sym, refl}
use Prim.Native.Nat.{ℕ, ◌+◌, ◌≤◌, ◌-◌, ◌<◌}
use native.Mathlib.Omega.{arith}
use borrow.Author.Tests.{lt-leb}
use lib.Dec.{T, leb, leb→le, nleb→lt}
use lib.ListN.{length}
use Rattle.queue.proofs.Numbers.{some_number}
use Rattle.queue.specs.Answers.{number_of}
use Rattle.rules.proofs.Drains.{GoodDrain, drain_true, drain_ok, good_drain_lem}
use Rattle.rules.proofs.Refusals.{all_good, head_ok, record_true, slots_asks}
use Rattle.rules.proofs.Choices.{unless-stop}
use Rattle.rules.specs.Drains.{Drain, as_opened, good_drain, on_drain}
use Rattle.rules.specs.Outcome.{Outcome, draining, told, unchanged}
use Rattle.rules.specs.Records.{Rec}
use Rattle.rules.specs.Refusals.{good_head, most_slots, on_queue, on_slots}
use Rattle.rules.specs.Choices.{ask, unless}
use Rattle.queue.specs.declared.refusals.Refusal.{Refusal}
use Rattle.queue.specs.declared.refusals.Refusal.TheVariants.{Slots, Record}

module _ (c : ℕ) (d : Drain) where
  -- a test that passes where the record is good, and only there, is the test of the record
  pub decided : (t : Bool) → (T t → GoodDrain c d) → (T (not t) → GoodDrain c d → ⊥) → t ≡ good_drain c d
  decided true f g = sym (drain_true c d (f tt))
  decided false f g = go (good_drain c d) refl
    where
      go : (s : Bool) → good_drain c d ≡ s → false ≡ good_drain c d
      go true e = absurd (g tt (good_drain_lem c d (rw e tt)))
      go false e = sym e

  -- a test of it fails
  pub bad : (GoodDrain c d → ⊥) → false ≡ good_drain c d
  bad f = decided false (λ t. absurd t) (λ t. f)

  -- all else is good: what is left is the test of the remaining ones, made by differences
  pub last_test : good_head c d.head ≡ true → d.start + d.drained + d.tail ≤ c → d.start ≤ d.idx
      → d.idx ≤ d.start + d.drained → leb d.remaining (d.drained - (d.idx - d.start)) ≡ good_drain c d
  last_test head fits from upto =
      decided _
      (λ t. record {
        whole = record { placed = head_ok c d.head (rw head tt); fits = fits };
        from = from;
        upto = omega (arith, leb→le d.remaining _ t);
      })
      (λ t g. omega (arith, nleb→lt d.remaining _ t))

  -- ---- one law for each return of `check_drain`

  pub slots_checked : most_slots < c → number_of Slots ≡ on_drain c d
  unfolding number_of on_drain on_slots ask
  slots_checked lt = rw (lt-leb c most_slots lt)

  pub record_checked : c ≤ most_slots → good_drain c d ≡ false → number_of Record ≡ on_drain c d
  unfolding number_of on_drain ask
  record_checked le bad = rw (slots_asks c _ le, bad)

  pub good_checked : c ≤ most_slots → good_drain c d ≡ true → 0 ≡ on_drain c d
  unfolding on_drain ask
  good_checked le good = rw (slots_asks c _ le, good)

  -- past them, the record as the drain was opened passes the tests of a queue, and what remains are positions of it
  module _ (z : on_drain c d ≡ 0) (r : Rec) (whole : r ≡ as_opened d) where
    pub drain_queue : on_queue c r 0 ≡ 0
    drain_queue =
        let k = drain_ok c d z in
        rw whole (all_good c (as_opened d) 0 k.0 (record_true c (as_opened d) k.1.whole))

    pub remains_in : (i : ℕ) → i < d.idx + d.remaining → i < r.len
    remains_in i lt = let g = (drain_ok c d z).1 in rw whole (omega arith)

-- they refuse: the same record, moved 0, and nothing is written; o is what the call would do
pub drain_refused : (b : List ℕ) (d : Drain) (o : Outcome) (x : Refusal) → number_of x ≡ on_drain (length b) d
    → (record { refused = number_of x; moved = 0; state = draining d; handed = none }, b)
    ≡ told (unless (on_drain (length b) d) o (unchanged b (draining d) (on_drain (length b) d)))
unfolding unchanged
drain_refused b d o x e = rw (sym e, unless-stop (number_of x) o _ (some_number x))
