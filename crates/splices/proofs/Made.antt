-- The room for the new elements: one law for each return of `make_room`. Assumes nothing.
use mathlib.Core.List.{List}
use mathlib.Core.Logic.{⊎_elim}
use mathlib.Core.Path.{◌≡◌, ◌∙◌}
use Prim.Native.Nat.{ℕ, ◌<◌, ◌+◌, ◌≤◌, ◌-◌}
use native.Mathlib.Omega.{arith}
use borrow.Author.Tests.{le-ltb, lt-ltb, ne_eqb, eq-eqb}
use lib.Dec.{ltb}
use lib.ListN.{length}
use Rattle.holes.proofs.Closes.{hole_closed, joined_head, joined_moved}
use Rattle.holes.proofs.Rooms.{tail-moved}
use Rattle.holes.specs.Holes.{closed_hole}
use Rattle.rules.proofs.Places.{place_good}
use Rattle.rules.proofs.Choices.{lt_or_ge, by_test}
use Rattle.rules.specs.Places.{place}
use Rattle.rules.specs.Slots.{copied}
use Rattle.rules.specs.Choices.{whether}
use Rattle.splices.specs.Rooms.{SpliceMade, spliced_head, spliced_moved}

module _ (b : List ℕ) (h s d r t : ℕ) where
  -- more come than leave: the tail moves
  pub by_tail : (b' : List ℕ) → h < length b → s + d + t ≤ length b → s + r + t ≤ length b → d < r
      → b' ≡ copied b (place (length b) h (s + d)) (place (length b) h (s + r)) t → SpliceMade b b' h s d r t h t
  unfolding spliced_head spliced_moved whether
  by_tail b' hh fits room more moved =
      rw moved (record {
        head = rw (le-ltb r d (omega arith));
        moved = rw (lt-ltb d r more);
        room = tail-moved b h s d t hh fits r room;
      })

  -- as many come, or fewer: head and moved are those of the hole that is left
  module _ (fewer : r ≤ d) where
    same_head : (c : ℕ) → joined_head c h s r (d - r) t ≡ spliced_head c h s d r t
    unfolding spliced_head joined_head whether
    same_head c = ⊎_elim
        (λ (lt : r < d). rw (ne_eqb (d - r) 0 (λ e. omega arith), lt-ltb r d lt))
        (λ (ge : d ≤ r). rw (eq-eqb (d - r) 0 (omega arith), le-ltb r d ge)) (lt_or_ge r d)

    same-moved : joined_moved s r (d - r) t ≡ spliced_moved s d r t
    unfolding spliced_moved joined_moved whether
    same-moved = ⊎_elim
        (λ (lt : r < d). rw (ne_eqb (d - r) 0 (λ e. omega arith), le-ltb d r fewer, lt-ltb r d lt))
        (λ (ge : d ≤ r). rw (eq-eqb (d - r) 0 (omega arith), le-ltb d r fewer, le-ltb r d ge)) (lt_or_ge r d)

    pub by_hole : (b' : List ℕ) (h' m : ℕ) → h ≤ length b - 1 → s + d + t ≤ length b
        → (h', m, b') ≡ closed_hole b h s r (d - r) t
        → SpliceMade b b' h s d r t h' m
    by_hole b' h' m good fits closed =
        let c = hole_closed b h s r (d - r) t good (omega arith) b' h' m closed in
        let all : d - r + r ≡ d = omega arith in
        record { head = c.head ∙ same_head (length b); moved = c.moved ∙ same-moved; room = rw all at c.room }

-- the head is one in the ring
pub spliced_good : (c h s d r t : ℕ) → h ≤ c - 1 → d ≤ c → spliced_head c h s d r t ≤ c - 1
unfolding spliced_head
spliced_good c h s d r t good le =
    by_test (ltb r d) (λ p. p ≤ c - 1)
    (λ u. by_test (ltb (s + r) t) (λ p. p ≤ c - 1) (λ w. place_good c h good (d - r) (omega arith)) (λ w. good))
    (λ u. good)
