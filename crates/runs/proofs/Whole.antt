-- The front run and behind it the back run are the range. Assumes nothing.
use mathlib.Core.List.{List, ◌++◌, append-nil}
use mathlib.Core.Logic.{◌≢◌, ⊎_elim}
use mathlib.Core.Path.{◌≡◌, refl, ◌∙◌, ap, sym}
use Prim.Native.Nat.{ℕ, ◌+◌, ◌≤◌, ◌-◌, ◌<◌}
use native.Mathlib.Nat.{sub-zero}
use native.Mathlib.Omega.{arith}
use borrow.Author.Tests.{le-leb}
use lib.ListN.{length, take, drop}
use lib.Seq.{take_all}
use Rattle.rules.proofs.Held.{length-held}
use Rattle.rules.proofs.Places.{place-low, wrapped-high}
use Rattle.rules.proofs.Refusals.{Good, queue_ok, range_ok, queue_go}
use Rattle.rules.proofs.Ring.{read_add, read_straight}
use Rattle.rules.proofs.Slots.{list_of_none, list_of_drop, list_of_take}
use Rattle.rules.proofs.Choices.{unless-go, lt_or_ge}
use Rattle.rules.specs.Places.{place}
use Rattle.rules.specs.Records.{Rec, held}
use Rattle.rules.specs.Refusals.{on_queue, in_range, on_range}
use Rattle.rules.specs.Runs.{TwoRuns, part, runs, front_run, back_run, runs_or}
use Rattle.rules.specs.Slots.{read, list_of}
use Rattle.rules.specs.Choices.{ask}
use Rattle.runs.proofs.Cases.{by_runs}

-- elements that go on from slot 0: those up to the last slot, and behind them the rest from the first slot on
pub read_round : (b : List ℕ) (w n : ℕ) → w < length b → length b - w < n → n ≤ length b
    → read (length b) b w n ≡ take (length b - w) (drop w b) ++ take (n - (length b - w)) b
read_round b w n in_slots_lem over fits =
    let cap = length b in
    let rest = n - (cap - w) in
    let back : place cap w (cap - w) ≡ 0 = wrapped-high cap (w + (cap - w)) (omega arith) ∙ omega arith in
    let parts : n ≡ cap - w + rest = omega arith in
    ap (read cap b w) parts ∙ read_add cap b w (cap - w) rest in_slots_lem (omega arith)
    ∙ rw (back, read_straight cap b w (cap - w) refl (omega arith), read_straight cap b 0 rest refl (omega arith))

-- one run behind the other
abbrev joined : List ℕ → TwoRuns → List ℕ
joined b t = part b t.front ++ part b t.back

module _ (b : List ℕ) (h s e : ℕ) (good : h ≤ length b - 1) (le : s ≤ e) (fits : e ≤ length b) where
  in_ring : s ≢ e → place (length b) h s < length b
  in_ring differ = place-low (length b) h (omega arith) s (omega arith)

  joined-runs : joined b (runs (length b) h s e) ≡ read (length b) b (place (length b) h s) (e - s)
  unfolding part
  joined-runs =
      let cap = length b in
      let w = place cap h s in
      by_runs cap h s e (λ (t : TwoRuns). joined b t ≡ read cap b w (e - s))
      (λ same. let empty : 0 ≡ e - s = omega arith in sym (list_of_none b w) ∙ ap (read cap b w) empty)
      (λ differ room.
      let long : w + (e - s) - w ≡ e - s = omega arith in
      append-nil _ ∙ ap (λ (k : ℕ). take k (drop w b)) long
      ∙ sym (read_straight cap b w (e - s) refl (omega (arith, in_ring differ))))
      (λ differ over. rw (sub-zero (e - s - (cap - w)))
      (sym (read_round b w (e - s) (in_ring differ) over (omega arith))))

module _ (b : List ℕ) (r : Rec) where
  -- the n elements from position s on, of which there are some, stand from their place on
  pub range_held : (s n : ℕ) → Good (length b) r → s + n ≤ r.len → s < r.len
      → list_of b (place (length b) r.head s) n ≡ take n (drop s (held b r))
  unfolding held
  range_held s n g le lt =
      let h : r.head < length b = omega arith in
      let low = place-low (length b) r.head h s (omega arith) in
      sym (ap (take n) (list_of_drop b r.head h s r.len (omega arith) g.fits)
      ∙ list_of_take b (place (length b) r.head s) low n (r.len - s) (omega arith) (omega arith))

  -- an accepted range: its runs are the range's elements, in order
  pub runs_range : (s e : ℕ) → on_range (length b) r s e ≡ 0
      → front_run b r s e ++ back_run b r s e ≡ take (e - s) (drop s (held b r))
  unfolding front_run back_run runs_or on_range
  runs_range s e z =
      let q = queue_ok (length b) r _ z in
      let g = q.0 in
      let k = range_ok r.len s e 0 q.1 in
      ap (joined b) (unless-go (on_range (length b) r s e) (runs (length b) r.head s e) _ z)
      ∙ joined-runs b r.head s e g.placed k.0 (omega arith)
      ∙ ⊎_elim
      (λ lt. range_held s (e - s) g (omega arith) (omega arith))
      (λ ge. let empty : e - s ≡ 0 = omega arith in rw empty (list_of_none b _))
      (lt_or_ge s e)

  -- the whole queue
  pub runs-held : on_queue (length b) r 0 ≡ 0 → front_run b r 0 r.len ++ back_run b r 0 r.len ≡ held b r
  unfolding on_range in_range ask
  runs-held z =
      runs_range 0 r.len (queue_go (length b) r _ z
      ∙ rw (le-leb 0 r.len (omega arith), le-leb r.len r.len (omega arith)))
      ∙ take_all (r.len - 0) (held b r) (omega (arith, length-held b r))
