-- The room that a splice makes: r elements of a lent slice replace
-- d behind the first s, in front of the last t. Assumes nothing.
use Rattle.std.specs.Prelude.{List, ◌≡◌, ℕ, ◌+◌, ◌-◌, ltb, length}
use Rattle.holes.specs.Holes.{RoomMade}
use Rattle.rules.specs.Places.{place}
use Rattle.rules.specs.Choices.{whether}

-- head, if something remains: where r < d and s + r < t, the earlier
-- elements move and it steps on by the hole d - r; otherwise as it was
unfoldable pub spliced_head : ℕ → ℕ → ℕ → ℕ → ℕ → ℕ → ℕ
spliced_head cap h s d r t = whether (ltb r d) (whether (ltb (s + r) t) (place cap h (d - r)) h) h

-- if r > d, moved is t; if r = d, 0; if r < d, s where s + r < t, else t
unfoldable pub spliced_moved : ℕ → ℕ → ℕ → ℕ → ℕ
spliced_moved s d r t = whether (ltb d r) t (whether (ltb r d) (whether (ltb (s + r) t) s t) 0)

-- the room is made: head has gone from h to h', and m elements moved
pub record SpliceMade (b b' : List ℕ) (h s d r t h' m : ℕ) : Type 0 where
  pub head : h' ≡ spliced_head (length b) h s d r t
  pub moved : m ≡ spliced_moved s d r t
  pub room : RoomMade b b' h h' s d r t
