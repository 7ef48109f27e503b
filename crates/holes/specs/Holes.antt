-- How a hole in a queue is closed, by a drain or a splice. Assumes nothing.
use Rattle.std.specs.Prelude.{List, ◌++◌, ◌≡◌, ℕ, ◌+◌, eqb, ltb, take, drop, length}
use Rattle.rules.specs.Places.{place}
use Rattle.rules.specs.Slots.{lay, list_of, copied}
use Rattle.rules.specs.Choices.{whether}

-- the list l with vs in the place of the d elements behind its first s
abbrev pub replaced : List ℕ → ℕ → ℕ → List ℕ → List ℕ
replaced l s d vs = take s l ++ (vs ++ drop (s + d) l)

-- the slots b have become b', and head has gone from h to h': whichever r elements are now laid behind the
-- first s, they stand there in the place of d, in front of the last t, and every other slot keeps its old value
pub record RoomMade (b b' : List ℕ) (h h' s d r t : ℕ) : Type 0 where
  pub long : length b' ≡ length b
  pub laid : (vs : List ℕ) → length vs ≡ r
      → lay b' (place (length b) h' s) vs ≡ lay b h' (replaced (list_of b h (s + d + t)) s d vs)

-- which elements move to close a hole: `many`, which stand from slot `from` on and go to slot `to`; then head is `head`
pub record Moving : Type 0 where
  pub from : ℕ
  pub to : ℕ
  pub many : ℕ
  pub head : ℕ

-- the shorter side of a hole of k behind s elements and room for r, in front of the last t: if s + r < t, the
-- earlier one, which goes on by k, and head with it; otherwise, a tie included, the tail, which goes back by k
unfoldable pub shorter_side : ℕ → ℕ → ℕ → ℕ → ℕ → ℕ → Moving
shorter_side cap h s r k t =
    whether (ltb (s + r) t) (record { from = h; to = place cap h k; many = s; head = place cap h k })
    (record { from = place cap h (s + r + k); to = place cap h (s + r); many = t; head = h })

-- such a hole is closed: head, how many elements moved, and the slots, which are
-- as they were where there is no hole, and else with the shorter side copied
unfoldable pub closed_hole : List ℕ → ℕ → ℕ → ℕ → ℕ → ℕ → ℕ × ℕ × List ℕ
closed_hole b h s r k t =
    let m = shorter_side (length b) h s r k t in
    whether (eqb k 0) (h, 0, b) (m.head, m.many, copied b m.from m.to m.many)
