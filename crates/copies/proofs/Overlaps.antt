-- Two stretches of the ring that overlap at one end at most, and of which one runs
-- past the last slot. rs and rd are the places s and d as numbers. Assumes nothing.
use mathlib.Core.List.{List}
use mathlib.Core.Path.{◌≡◌, refl, ap, ◌∙◌}
use Prim.Native.Nat.{ℕ, ◌<◌, ◌+◌, ◌-◌, ◌≤◌}
use native.Mathlib.Omega.{arith}
use lib.ListN.{length}
use Rattle.rules.proofs.Slots.{length-lay}
use Rattle.copies.specs.Overlap.{OneOverlap, OneWraps}
use Rattle.rules.specs.Places.{step_back}
use Rattle.rules.specs.Slots.{copied, list_of}
use Rattle.stretches.proofs.Order.{way, on, over, up, down}

-- where d is one of the n slots from s on, the two stretches do not meet again round the ring
pub one_overlap : (cap s d n : ℕ) → s < cap → d < cap → OneOverlap cap s d n → (s ≡ d → ⊥) → step_back cap d s < n
    → (0 < step_back cap d s) × (step_back cap d s + n ≤ cap)
unfolding OneOverlap
one_overlap cap s d n hs hd o other k = let w = way cap s d hs hd in omega arith

-- where the stretch from s on does not run past the last slot, that from d on does
pub dst_wraps : (cap s d n rs rd : ℕ) → OneWraps cap s d n → rs ≡ s → rd ≡ d → n ≤ cap - rs → cap - rd < n
unfolding OneWraps
dst_wraps cap s d n rs rd w is id fits = omega arith

-- it is enough that one does
pub src_past : (cap s d n : ℕ) → cap - s < n → OneWraps cap s d n
unfolding OneWraps
src_past cap s d n past = omega arith

pub dst_past : (cap s d n : ℕ) → cap - d < n → OneWraps cap s d n
unfolding OneWraps
dst_past cap s d n past = omega arith

-- how far d stands after s, where both stretches run past the last slot and do not meet again round the ring
pub ahead : (cap s d n rs rd : ℕ) → s < cap → d < cap → step_back cap d s + n ≤ cap → rs ≡ s → rd ≡ d → cap - rd < n
    → (cap - rd ≤ cap - rs) × (cap - rs - (cap - rd) ≡ step_back cap d s)
ahead cap s d n rs rd hs hd apart is id past = let w = way cap s d hs hd in omega arith

-- how far d stands before s, where both run past the last slot and the stretch from s on ends before d
pub behind : (cap s d n rs rd : ℕ) → s < cap → d < cap → n ≤ step_back cap d s → rs ≡ s → rd ≡ d → cap - rs < n
    → (cap - rs < cap - rd) × (cap - rd - (cap - rs) + step_back cap d s ≡ cap)
behind cap s d n rs rd hs hd apart is id past = let w = way cap s d hs hd in omega arith

-- both run past the last slot, d stands after s: the slots after the
-- end are copied first, then those that cross it, then those before it
pub down_both : (b b1 b2 b3 : List ℕ) (s d n rs rd z x y w : ℕ) → s < length b → d < length b
    → (0 < step_back (length b) d s) × (step_back (length b) d s + n ≤ length b) → rs ≡ s → rd ≡ d → length b - rs < n
    → length b - rd < n → z ≡ 0 → x ≡ length b - rs - (length b - rd) → b1 ≡ copied b z x (n - (length b - rs))
    → y ≡ length b1 - (length b - rs - (length b - rd)) → w ≡ 0 → b2 ≡ copied b1 y w (length b - rs - (length b - rd))
    → b3 ≡ copied b2 s d (length b - rd) → b3 ≡ copied b s d n
down_both b b1 b2 b3 s d n rs rd z x y w hs hd apart is id ps pd hz hx q1 hy hw q2 q3 =
    let cap = length b in
    let e = way cap s d hs hd in
    let step = ahead cap s d n rs rd hs hd apart.1 is id pd in
    let same : length b1 ≡ cap = ap length q1 ∙ length-lay b x (list_of b z (n - (cap - rs))) in
    down b s d (step_back cap d s) hs e.0 e.1 b2 b3 y w (cap - rd) _ n
    (down b y w (step_back cap d s) (omega arith) e.0 (over (omega arith)) b1 b2 z x _ _ _ q1 q2 (over (omega arith))
    (on (omega arith)) refl (omega arith))
    q3 (on (omega arith)) (over (omega arith)) (omega arith) apart.1

-- both run past the last slot, d stands before s: the slots before the
-- end are copied first, then those that cross it, then those after it
pub up_both : (b b1 b2 b3 : List ℕ) (s d n rs rd z x y w : ℕ) → s < length b → d < length b
    → n ≤ step_back (length b) d s → rs ≡ s → rd ≡ d → length b - rs < n → length b - rd < n
    → b1 ≡ copied b s d (length b - rs) → z ≡ 0 → x ≡ d + (length b - rs)
    → b2 ≡ copied b1 z x (length b - rd - (length b - rs)) → y ≡ length b - rd - (length b - rs) → w ≡ 0
    → b3 ≡ copied b2 y w (n - (length b - rd)) → b3 ≡ copied b s d n
up_both b b1 b2 b3 s d n rs rd z x y w hs hd apart is id ps pd q1 hz hx q2 hy hw q3 =
    let cap = length b in
    let e = way cap s d hs hd in
    let step = behind cap s d n rs rd hs hd apart is id ps in
    up b s d (step_back cap d s) hs e.0 e.1 b2 b3 y w _ _ n
    (up b s d (step_back cap d s) hs e.0 e.1 b1 b2 z x _ _ _ q1 q2 (over (omega arith)) (on (omega arith)) refl
    (omega arith))
    q3 (over (omega arith)) (over (omega arith)) (omega arith) apart
