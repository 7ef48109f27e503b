-- What the calls on two queues leave: good records, and the lists that the rules give. Assumes nothing.
use mathlib.Core.List.{List}
use mathlib.Core.Path.{◌≡◌, refl}
use Prim.Native.Nat.{ℕ, ◌+◌, ◌≤◌, ◌-◌}
use lib.Dec.{leb, leb→le}
use lib.ListN.{length, drop, length-drop}
use Rattle.rules.proofs.Ends.{clear_lawful, truncate_lawful}
use Rattle.rules.proofs.Fit.{rule_leaves, Leaves}
use Rattle.rules.proofs.Held.{length-held}
use Rattle.rules.proofs.Joins.{extend_lawful}
use Rattle.rules.proofs.Refusals.{Good, change_ok, room_ok, slots_ok}
use Rattle.rules.proofs.Choices.{passed}
use Rattle.rules.specs.Ends.{clear, truncate}
use Rattle.rules.specs.Joins.{extend_with}
use Rattle.rules.specs.Pairs.{on_appending, on_splitting}
use Rattle.rules.specs.Records.{Rec, held}

-- ---- `append`

pub append_ok : (c : ℕ) (r : Rec) (c' : ℕ) (r' : Rec) → on_appending c r c' r' ≡ 0
    → Good c r × Good c' r' × (r.len + r'.len ≤ c)
unfolding on_appending
append_ok c r c' r' e =
    let p = change_ok c r _ e in
    let q = change_ok c' r' _ p.1 in
    (p.0, q.0, room_ok c (r.len + r'.len) q.1)

-- our side is left as by `extend`, the other's as by `clear`, and neither rule asks more
pub append_leaves : (b : List ℕ) (r : Rec) (b' : List ℕ) (r' : Rec) → on_appending (length b) r (length b') r' ≡ 0
    → Leaves b r (extend_with (held b' r')) × Leaves b' r' clear
unfolding on_appending extend_with clear
append_leaves b r b' r' e =
    let p = change_ok (length b) r _ e in
    let q = change_ok (length b') r' _ p.1 in (
      rule_leaves b r (extend_with (held b' r')) (extend_lawful (held b' r')) p.0 (rw length-held q.1),
      rule_leaves b' r' clear clear_lawful q.0 refl,
    )

-- ---- `split_off`

pub split_ok : (c : ℕ) (r : Rec) (c' at : ℕ) → on_splitting c r c' at ≡ 0 → Good c r × (at ≤ r.len) × (r.len - at ≤ c')
unfolding on_splitting
split_ok c r c' at e =
    let p = change_ok c r _ e in
    let q = passed (leb at r.len) 2 _ (slots_ok c' _ p.1).1 in
    (p.0, leb→le at r.len q.0, room_ok c' (r.len - at) q.1)

-- our side is left as by `truncate`, and the target has room for the others
pub split_leaves : (b : List ℕ) (r : Rec) (c' at : ℕ) → on_splitting (length b) r c' at ≡ 0
    → Leaves b r (truncate at) × (length (drop at (held b r)) ≤ c')
unfolding truncate
split_leaves b r c' at e =
    let p = split_ok (length b) r c' at e in (
      rule_leaves b r (truncate at) (truncate_lawful at) p.0 refl,
      simp (length-drop, length-held) p.2,
    )
