-- A range of a queue, copied into other slots: straight, or its two runs one behind the other. Assumes nothing.
use Rattle.std.proofs.Common.{◌≡◌, ℕ, ◌+◌, ◌-◌, ◌≤◌, ◌<◌, List, length, take, drop, ap, ◌∙◌, sym, refl, length-take, length-drop, arith}
use Rattle.rules.proofs.Places.{place-low}
use Rattle.rules.proofs.Ring.{read_straight, write-append}
use Rattle.rules.proofs.Slots.{length-lay, lay_none}
use Rattle.rules.specs.Places.{place}
use Rattle.rules.specs.Records.{Rec, held}
use Rattle.rules.specs.Slots.{list_of, lay}
use Rattle.runs.proofs.Whole.{range_held, read_round}

-- no element: nothing is written
pub none_laid : (b : List ℕ) (d : ℕ) (l : List ℕ) (n : ℕ) → n ≡ 0 → lay b d (take n l) ≡ b
none_laid b d l n none = rw none (lay_none b d)

-- The n elements of a good queue from position s on, of which there are some, from place w on.
module _ (b : List ℕ) (r : Rec) (s n w : ℕ) (placed : r.head ≤ length b - 1) (fits : r.len ≤ length b)
    (within : s + n ≤ r.len) (some : 0 < n) (at-w : w ≡ place (length b) r.head s) where
  -- they are those that stand from there on
  pub range_there : list_of b w n ≡ take n (drop s (held b r))
  range_there =
      ap (λ (w : ℕ). list_of b w n) at-w
      ∙ range_held b r s n (record { placed = placed; fits = fits }) within (omega arith)

  -- and the slots from there on, where they end before the slots do
  pub straight : n ≤ length b - w → take (w + n - w) (drop w b) ≡ take n (drop s (held b r))
  straight all =
      let in_slots : w < length b = omega (arith, place-low (length b) r.head (omega arith) s (omega arith)) in
      let many : w + n - w ≡ n = omega arith in
      rw many (sym (read_straight (length b) b w n refl (omega arith))) ∙ range_there

-- The n elements from place w on, which run past the last slot: the front run is laid from d on in the slots b', and
-- behind it, from p on, the back run.
pub both_laid : (b : List ℕ) (w n : ℕ) → w < length b → length b - w < n → n ≤ length b → (b' : List ℕ) (d p : ℕ)
    → d < length b' → n ≤ length b' → p ≡ place (length b') d (length b - w)
    → lay (lay b' d (take (length b - w) (drop w b))) p (take (n - (length b - w)) b) ≡ lay b' d (list_of b w n)
both_laid b w n in_slots over few b' d p in_ring fits at_p =
    let front = take (length b - w) (drop w b) in
    let long : length front ≡ length b - w = simp (length-take, length-drop) (omega arith) in
    let behind : p ≡ place (length b') d (length front) = at_p ∙ ap (place (length b') d) (sym long) in
    rw (behind, length-lay) (sym (write-append (length b') b' d front _ in_ring (omega arith)))
    ∙ ap (lay b' d) (sym (read_round b w n in_slots over few))

-- one law for each return
pub ruleset range = (none_laid, straight, range_there)

pub ruleset apart = (both_laid, length-lay)
