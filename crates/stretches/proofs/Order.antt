-- A copy in two stretches, and which of the two comes first:
-- what is copied second was not overwritten. Assumes nothing.
use mathlib.Core.List.{List}
use mathlib.Core.Path.{◌≡◌, subst, sym, ap, ◌∙◌}
use Prim.Native.Nat.{ℕ, ◌<◌, ◌+◌, ◌-◌, ◌≤◌}
use native.Mathlib.Omega.{arith}
use lib.ListN.{length}
use Rattle.rules.proofs.Places.{Wrap, wrap, place-to}
use Rattle.rules.proofs.Ring.{copy_up, copy_down}
use Rattle.rules.proofs.Slots.{length-lay}
use Rattle.rules.specs.Places.{step_back, place}
use Rattle.rules.specs.Slots.{copied, list_of, write, read}

-- y is a slot before the end of the ring
pub on : {cap n y : ℕ} → (n ≡ y) × (y < cap) → Wrap cap n y
on {cap} q = record { off = 0; rest = cap; sum = omega arith; whole = omega arith; one = omega arith; low = q.1 }

-- y is a slot past the end of the ring
pub over : {cap n y : ℕ} → (n ≡ y + cap) × (y < cap) → Wrap cap n y
over {cap} q = record { off = cap; rest = 0; sum = omega arith; whole = omega arith; one = omega arith; low = q.1 }

-- d stands `step_back cap d s` slots after s
pub way : (cap s d : ℕ) → s < cap → d < cap → (step_back cap d s < cap) × Wrap cap (s + step_back cap d s) d
way cap s d hs hd =
    let short = wrap cap (d + (cap - s)) (omega arith) in (
      short.low,
      subst (Wrap cap (s + step_back cap d s)) (place-to cap s hs d hd)
          (wrap cap (s + step_back cap d s) (omega arith)),
    )

-- y is the slot m after x
reach : (cap x y m : ℕ) → x < cap → m ≤ cap → Wrap cap (x + m) y → y ≡ place cap x m
reach cap x y m hx hm w = omega (arith, wrap cap (x + m) (omega arith))

-- d stands e slots after s
module _ (b : List ℕ) (s d e : ℕ) (hs : s < length b) (short : e < length b) (turn : Wrap (length b) (s + e) d) where
  to : place (length b) s e ≡ d
  to = sym (reach (length b) s d e hs (omega arith) turn)

  -- m slots, then the n after them
  pub up : (b1 b2 : List ℕ) (s2 d2 m n len : ℕ) → b1 ≡ copied b s d m → b2 ≡ copied b1 s2 d2 n
      → Wrap (length b) (s + m) s2 → Wrap (length b) (d + m) d2 → m + n ≡ len → len ≤ e → b2 ≡ copied b s d len
  up b1 b2 s2 d2 m n len q1 q2 ws wd sum k =
      let cap = length b in
      let ps = reach cap s s2 m hs (omega arith) ws in
      let pd = reach cap d d2 m turn.low (omega arith) wd in
      let same : length b1 ≡ cap = ap length q1 ∙ length-lay b d (list_of b s m) in
      q2 ∙ (λ t. write (same t) (q1 t) (pd t) (read (same t) (q1 t) (ps t) n))
      ∙ copy_up cap b s d m n e hs to short (omega arith) (omega arith) ∙ ap (copied b s d) sum

  -- the n slots after the first m, then those
  pub down : (b1 b2 : List ℕ) (s2 d2 m n len : ℕ) → b1 ≡ copied b s2 d2 n → b2 ≡ copied b1 s d m
      → Wrap (length b) (s + m) s2 → Wrap (length b) (d + m) d2 → m + n ≡ len → e + len ≤ length b
      → b2 ≡ copied b s d len
  down b1 b2 s2 d2 m n len q1 q2 ws wd sum k =
      let cap = length b in
      let ps = reach cap s s2 m hs (omega arith) ws in
      let pd = reach cap d d2 m turn.low (omega arith) wd in
      let start : b1 ≡ copied b (place cap s m) (place cap d m) n = q1 ∙ (λ t. copied b (ps t) (pd t) n) in
      let same : length b1 ≡ cap = ap length start ∙ length-lay b (place cap d m) (list_of b (place cap s m) n) in
      q2 ∙ (λ t. write (same t) (start t) d (read (same t) (start t) s m))
      ∙ copy_down cap b s d m n e hs to short (omega arith) (omega arith) ∙ ap (copied b s d) sum
