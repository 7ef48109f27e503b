-- What the moves into another region leave: good records, and the lists that the rules give. Assumes nothing.
use mathlib.Core.List.{List}
use mathlib.Core.Path.{◌≡◌, refl, sym, ap, ◌∙◌}
use Prim.Native.Nat.{ℕ, ◌+◌, ◌≤◌, ◌-◌, min, zero, suc}
use native.Mathlib.Omega.{arith}
use borrow.Author.Tests.{ne_eqb}
use lib.ListN.{length, take, drop, length-drop, length-take, drop_of_length-le}
use Rattle.rules.proofs.Count.{tally_nil, tally_split}
use Rattle.rules.proofs.Ends.{clear_lawful}
use Rattle.rules.proofs.Fit.{rule_leaves, Leaves}
use Rattle.rules.proofs.Held.{length-held}
use Rattle.rules.proofs.Joins.{extend_lawful}
use Rattle.rules.proofs.Lawful.{Lawful}
use Rattle.rules.proofs.Places.{place_good}
use Rattle.rules.proofs.Refusals.{Good, change_ok, queue_ok, room_ok, slots_ok, some_room}
use Rattle.rules.proofs.Slots.{lay-own, list_of_drop, list_of_none}
use Rattle.rules.specs.Ends.{clear}
use Rattle.rules.specs.Joins.{extend_with}
use Rattle.rules.specs.Outcome.{accepted, rec_after}
use Rattle.rules.specs.Records.{Rec, held, stepped}
use Rattle.rules.specs.Regions.{on_moving, on_portion, pass_on}
use Rattle.rules.specs.Slots.{lay}
use Rattle.rules.specs.Choices.{whether}

-- ---- whole

pub move_ok : (c : ℕ) (r : Rec) (c' : ℕ) → on_moving c r c' ≡ 0 → Good c r × (r.len ≤ c')
unfolding on_moving
move_ok c r c' e =
    let p = change_ok c r _ e in
    (p.0, room_ok c' r.len (slots_ok c' _ p.1).1)

-- our side is left as by `clear`, and the region has room for all
pub move_leaves : (b : List ℕ) (r : Rec) (c' : ℕ) → on_moving (length b) r c' ≡ 0
    → Leaves b r clear × (length (held b r) ≤ c')
unfolding clear
move_leaves b r c' e =
    let p = move_ok (length b) r c' e in (rule_leaves b r clear clear_lawful p.0 refl, rw length-held p.1)

-- ---- in portions

-- the head of what is left: 0, or k places on
passed_good : (c h n k : ℕ) (l : List ℕ) → h ≤ c - 1 → n ≤ c → (pass_on k).head c h n l ≤ c - 1
unfolding pass_on whether
passed_good c h n k l good le = by (n - k) refl
  where
    by : (m : ℕ) → n - k ≡ m → (pass_on k).head c h n l ≤ c - 1
    by zero e = rw e (omega arith)
    by (suc m) e = rw (ne_eqb (n - k) 0 (λ z. omega arith)) (place_good c h good k (omega arith))

pub pass_on_lawful : (k : ℕ) → Lawful (pass_on k)
unfolding pass_on
pass_on_lawful k = record {
  fits = λ c l le e. omega arith;
  long = λ c l e. length-drop k l;
  balance = λ x c l e. omega (arith, tally_split x k l, tally_nil x);
  good = λ c h l g le e. passed_good c h (length l) k l g le;
}

-- the old queue's record after the first k have gone
abbrev pub rest : List ℕ → Rec → ℕ → Rec
rest b r k = rec_after b r (pass_on k)

-- what it then holds stands where it stood
pub held_rest : (b : List ℕ) (r : Rec) (k : ℕ) → Good (length b) r → held b (rest b r k) ≡ drop k (held b r)
unfolding held rec_after pass_on stepped whether
held_rest b r k g = by (r.len - k) refl
  where
    by : (m : ℕ) → r.len - k ≡ m → held b (rest b r k) ≡ drop k (held b r)
    by zero e = rw (e, drop_of_length-le (held b r) {i = k} (omega (arith, length-held b r))) (list_of_none b _)
    by (suc m) e =
        rw (ne_eqb (r.len - k) 0 (λ z. omega arith))
        (sym (list_of_drop b r.head (omega (arith, g.placed, g.fits)) k r.len (omega arith) g.fits))

-- so laying it writes nothing
pub left-standing : (b : List ℕ) (r : Rec) (k : ℕ) → Good (length b) r → (accepted b r (pass_on k)).slots ≡ b
unfolding accepted held rec_after pass_on stepped
left-standing b r k g =
    let h = (rest b r k).head in
    ap (lay b h) (sym (held_rest b r k g)) ∙ lay-own b h (rest b r k).len

pub portion_ok : (c : ℕ) (r : Rec) (c' : ℕ) (r' : Rec) (n : ℕ) → on_portion c r c' r' n ≡ 0
    → Good c r × Good c' r' × (r'.len + min n r.len ≤ c')
unfolding on_portion
portion_ok c r c' r' n e =
    let p = change_ok c r _ e in
    let q = queue_ok c' r' _ p.1 in
    (p.0, q.0, room_ok c' (r'.len + min n r.len) q.1)

-- what a portion lends to the new queue: as many elements as it says
pub portion-long : (b : List ℕ) (r : Rec) (n : ℕ) → length (take (min n r.len) (held b r)) ≡ min n r.len
portion-long b r n = simp (length-take, length-held) (omega arith)

-- the old queue is left as by `pass_on`, the new one, but for its mark, as by `extend`
pub portion_leaves : (b : List ℕ) (r : Rec) (b' : List ℕ) (r' : Rec) (n : ℕ)
    → on_portion (length b) r (length b') r' n ≡ 0
    → let k = min n r.len in Leaves b r (pass_on k) × Leaves b' r' (extend_with (take k (held b r)))
unfolding pass_on extend_with
portion_leaves b r b' r' n e =
    let p = portion_ok (length b) r (length b') r' n e in
    let k = min n r.len in (
      rule_leaves b r (pass_on k) (pass_on_lawful k) p.0 refl,
      rule_leaves b' r' (extend_with (take k (held b r))) (extend_lawful (take k (held b r))) p.1
          (rw (portion-long b r n) (some_room (length b') (r'.len + k) p.2)),
    )
