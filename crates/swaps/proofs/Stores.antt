-- The slots after the stores of a swap: the new list laid, and
-- nothing else. h, n: head and len; i, j: positions. Assumes nothing.
use mathlib.Core.List.{List}
use mathlib.Core.Path.{◌≡◌, sym, ◌∙◌, ap, refl}
use Prim.Native.Nat.{ℕ, ◌<◌, ◌≤◌, ◌-◌}
use native.Mathlib.Omega.{arith}
use lib.ListN.{set, length, drop, take, length-set}
use Rattle.rules.proofs.Places.{place-place, place-low}
use Rattle.rules.proofs.Ring.{write_read, length-read, read-drop, read_take}
use Rattle.rules.proofs.Slots.{lay-set, list_of_set}
use Rattle.rules.specs.Places.{place}
use Rattle.rules.specs.Slots.{write, read, lay, list_of}

-- a store to the slot of element i of n lays the n elements that then stand
stored : (cap : ℕ) (b : List ℕ) (h n i v : ℕ) → h < cap → n ≤ cap → i < n
    → set b (place cap h i) v ≡ write cap b h (read cap (set b (place cap h i) v) h n)
stored cap b h n i v in_ring fits lt =
    let b₁ = set b (place cap h i) v in
    sym (write_read cap b₁ h n) ∙ lay-set cap b h i v (read cap b₁ h n) in_ring (omega (arith, length-read cap b₁ h n))
    (omega (arith, length-read cap b₁ h n))

module _ (b : List ℕ) (h n i v : ℕ) (in_ring : h < length b) (fits : n ≤ length b) (lt : i < n) where
  -- v is stored in the slot of element i, and the first is left out, which is another one
  pub first_out : 0 < i → set b (place (length b) h i) v
      ≡ lay b (place (length b) h 1) (drop 1 (set (list_of b h n) i v))
  first_out pos =
      let cap = length b in
      let g = place cap h 1 in
      let to : place cap g (i - 1) ≡ place cap h i =
      place-place cap h in_ring 1 (i - 1) (omega arith) ∙ ap (place cap h) (omega arith) in
      (rw to at (stored cap b g (n - 1) (i - 1) v (place-low cap h in_ring 1 (omega arith)) (omega arith)
      (omega arith)))
      ∙ ap (lay b g) (sym (read-drop cap (set b (place cap h i) v) h in_ring 1 n (omega arith) fits)
      ∙ ap (drop 1) (list_of_set cap b h n i v refl in_ring fits lt))

  -- v is stored in the slot of element i, and the last is left out, which is another one
  pub last_out : i < n - 1 → set b (place (length b) h i) v ≡ lay b h (take (n - 1) (set (list_of b h n) i v))
  last_out before =
      let cap = length b in
      stored cap b h (n - 1) i v in_ring (omega arith) before
      ∙ ap (lay b h) (sym (read_take cap (set b (place cap h i) v) h in_ring (n - 1) n (omega arith) fits)
      ∙ ap (take (n - 1)) (list_of_set cap b h n i v refl in_ring fits lt))

  -- v is stored in the slot of element i, and w in that of element j
  pub both_stored : (j w : ℕ) → j < n
      → set (set b (place (length b) h i) v) (place (length b) h j) w ≡ lay b h (set (set (list_of b h n) i v) j w)
  both_stored j w lt' =
      let cap = length b in
      let b₁ = set b (place cap h i) v in
      let m = read cap (set b₁ (place cap h j) w) h n in
      stored cap b₁ h n j w in_ring fits lt'
      ∙ lay-set cap b h i v m in_ring (omega (arith, length-read cap (set b₁ (place cap h j) w) h n))
      (omega (arith, length-read cap (set b₁ (place cap h j) w) h n))
      ∙ ap (lay b h) (list_of_set cap b₁ h n j w (sym (length-set b (place cap h i) v)) in_ring fits lt'
      ∙ ap (λ (l : List ℕ). set l j w) (list_of_set cap b h n i v refl in_ring fits lt))
