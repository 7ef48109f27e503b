-- What closing a hole does: one law for each return, and what a closed hole is. Assumes nothing.
use mathlib.Core.List.{List}
use mathlib.Core.Logic.{◌≢◌}
use mathlib.Core.Path.{◌≡◌, refl, ◌∙◌, sym, subst}
use Prim.Native.Nat.{ℕ, ◌≤◌, ◌-◌, ◌+◌, ◌<◌}
use native.Mathlib.Nat.{zero-add}
use native.Mathlib.Omega.{arith}
use borrow.Author.Tests.{eq-eqb, ne_eqb, lt-ltb, le-ltb}
use lib.Dec.{eqb, eqb→eq, ltb}
use lib.ListN.{length}
use Rattle.copies.specs.Overlap.{OneOverlap}
use Rattle.holes.proofs.Rooms.{none_moved, head-moved, tail-moved, lay_short, can_move}
use Rattle.holes.specs.Holes.{RoomMade, Moving, shorter_side, closed_hole}
use Rattle.rules.proofs.Places.{place_zero}
use Rattle.rules.proofs.Choices.{by_test, is_true, is_false, neqb→ne}
use Rattle.rules.specs.Places.{place}
use Rattle.rules.specs.Refusals.{most_slots}
use Rattle.rules.specs.Slots.{copied, lay}
use Rattle.rules.specs.Choices.{whether}

-- ---- the side that moves, one law for each return of `shorter_side`

module _ (c h s r k t : ℕ) where
  -- the earlier one
  pub earlier_side : (q : ℕ) → s + r < t → q ≡ place c h k
      → record { from = h; to = q; many = s; head = q } ≡ shorter_side c h s r k t
  unfolding shorter_side whether
  earlier_side q lt at = rw (at, lt-ltb (s + r) t lt)

  -- the tail
  pub later_side : (p q : ℕ) → t ≤ s + r → p ≡ place c h (s + r + k) → q ≡ place c h (s + r)
      → record { from = p; to = q; many = t; head = h } ≡ shorter_side c h s r k t
  unfolding shorter_side whether
  later_side p q ge at_p at-q = rw (at_p, at-q, le-ltb (s + r) t ge)

-- ---- `close_hole`

module _ (b : List ℕ) (h s r k t : ℕ) where
  -- there is no hole
  pub no_hole : k ≡ 0 → (h, 0, b) ≡ closed_hole b h s r k t
  unfolding closed_hole whether
  no_hole z = rw (eq-eqb k 0 z)

  module _ (m : Moving) (side : m ≡ shorter_side (length b) h s r k t) where
    -- the side is moved
    pub side-moved : k ≢ 0 → (b' : List ℕ) → b' ≡ copied b m.from m.to m.many
        → (m.head, m.many, b') ≡ closed_hole b h s r k t
    unfolding closed_hole whether
    side-moved some b' moved = rw (moved, side, ne_eqb k 0 some)

    -- which one copy can do
    pub side_can_move : h < length b → s + r + k + t ≤ length b → length b ≤ most_slots
        → ((m.from < length b) × (m.to < length b) × (m.many ≤ length b) × (length b ≤ most_slots))
        × OneOverlap (length b) m.from m.to m.many
    unfolding shorter_side
    side_can_move hh fits few =
        rw side
        (by_test (ltb (s + r) t) (λ (m : Moving). ((m.from < length b) × (m.to < length b) × (m.many ≤ length b)
        × (length b ≤ most_slots)) × OneOverlap (length b) m.from m.to m.many)
        (λ lt. can_move (length b) h 0 k s _ _ hh (omega arith) (omega arith) few (sym (place_zero (length b) h hh))
        refl)
        (λ ge. can_move (length b) h (s + r + k) (s + r) t _ _ hh (omega arith) (omega arith) few refl refl))

-- ---- what a closed hole is: its head and moved count by cases, and the room for the new elements

-- head is as it was if there is no hole; if s + r < t, it steps on by k; otherwise as it was
unfoldable pub joined_head : ℕ → ℕ → ℕ → ℕ → ℕ → ℕ → ℕ
joined_head cap h s r k t = whether (eqb k 0) h (whether (ltb (s + r) t) (place cap h k) h)

-- moved: none if there is no hole, s if s + r < t, else t
unfoldable pub joined_moved : ℕ → ℕ → ℕ → ℕ → ℕ
joined_moved s r k t = whether (eqb k 0) 0 (whether (ltb (s + r) t) s t)

pub record HoleClosed (b b' : List ℕ) (h s r k t h' m : ℕ) : Type 0 where
  pub head : h' ≡ joined_head (length b) h s r k t
  pub moved : m ≡ joined_moved s r k t
  pub room : RoomMade b b' h h' s (k + r) r t

module _ (b : List ℕ) (h s r k t : ℕ) (good : h ≤ length b - 1) (fits : s + r + k + t ≤ length b) where
  -- there was none
  none_closed : k ≡ 0 → HoleClosed b b h s r k t h 0
  unfolding joined_head joined_moved whether
  none_closed z = rw z (record
      { head = refl; moved = refl; room = rw zero-add (none_moved b h s r t good (omega arith)) })

  -- one side or the other has moved
  side_closed : k ≢ 0
      → let m = shorter_side (length b) h s r k t in
      HoleClosed b (copied b m.from m.to m.many) h s r k t m.head m.many
  unfolding joined_head joined_moved shorter_side whether
  side_closed some =
      let hh : h < length b = omega arith in
      by_test (ltb (s + r) t) (λ (m : Moving). HoleClosed b (copied b m.from m.to m.many) h s r k t m.head
      m.many)
      (λ lt. record {
        head = rw (ne_eqb k 0 some, is_true (ltb (s + r) t) lt);
        moved = rw (ne_eqb k 0 some, is_true (ltb (s + r) t) lt);
        room = head-moved b h s (k + r) t hh (omega arith) r k refl;
      })
      (λ ge. let at : s + r + k ≡ s + (k + r) = omega arith in record {
        head = rw (ne_eqb k 0 some, is_false (ltb (s + r) t) ge);
        moved = rw (ne_eqb k 0 some, is_false (ltb (s + r) t) ge);
        room = rw at (tail-moved b h s (k + r) t hh (omega arith) r (omega arith));
      })

  pub hole_closed : (b' : List ℕ) (h' m : ℕ) → (h', m, b') ≡ closed_hole b h s r k t → HoleClosed b b' h s r k t h' m
  unfolding closed_hole
  hole_closed b' h' m e =
      let P : ℕ × ℕ × List ℕ → Type 0 = λ x. HoleClosed b x.2 h s r k t x.0 x.1 in
      subst P (sym e)
      (by_test (eqb k 0) P (λ z. none_closed (eqb→eq k 0 z)) (λ nz. side_closed (neqb→ne k 0 nz)))

-- ---- where nothing remains

-- of a list that is laid from some head on, the head plays no part where the list has no element
pub lay-over : (b : List ℕ) (h n : ℕ) (l : List ℕ) → length l ≡ n → lay b (whether (eqb n 0) 0 h) l ≡ lay b h l
lay-over b h n l e =
    by_test (eqb n 0) (λ g. lay b g l ≡ lay b h l)
    (λ z. let short : length l ≡ 0 = omega (arith, eqb→eq n 0 z) in lay_short b 0 l short ∙ sym (lay_short b h l short))
    (λ nz. refl)
