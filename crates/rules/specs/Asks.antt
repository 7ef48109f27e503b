-- The calls that only look, named, for sequences of calls, and what they see. The calls of a walk are not among them: a
-- walk keeps a record of its own. Assumes nothing.
use Rattle.std.specs.Prelude.{Bool, List, ℕ, length}
use Rattle.std.proofs.Math.Option.{Option}
use Rattle.rules.specs.Conditions.{Test}
use Rattle.rules.specs.Images.{on_writing, image_of}
use Rattle.rules.specs.Looks.{Order, Look, seen_as, look_at, at_position, at_back, has, looked, look_at_both, same, order}
use Rattle.rules.specs.Records.{Rec, held}
use Rattle.rules.specs.Runs.{TwoRuns, look_runs}
use Rattle.rules.specs.Search.{Spot, search_for, partition_by}

-- at one queue; the target of `write_image` has so many bytes
pub data Ask : Type 0 where
  get? : ℕ → Ask
  front? back? : Ask
  contains? : ℕ → Ask
  slice_ranges? : ℕ → ℕ → Ask
  binary_search? : ℕ → Ask
  partition_point? : Test → Ask
  write_image? : ℕ → Ask

-- at two
pub data AskBoth : Type 0 where
  eq? cmp? : AskBoth

-- what is seen: an element, if there is one; a truth; an order; where a search ended; a count; the two runs; the bytes
-- of an image
pub data Sight : Type 0 where
  element : Option ℕ → Sight
  truth : Bool → Sight
  ordered : Order → Sight
  spot : Spot → Sight
  count : ℕ → Sight
  ranges : TwoRuns → Sight
  image : List ℕ → Sight

-- what each sees of a queue
unfoldable pub answered : List ℕ → Rec → Ask → Look Sight
answered b r (get? i) = seen_as element (look_at b r (at_position i))
answered b r front? = seen_as element (look_at b r (at_position 0))
answered b r back? = seen_as element (look_at b r at_back)
answered b r (contains? x) = seen_as truth (look_at b r (has x))
answered b r (slice_ranges? s e) = seen_as ranges (look_runs b r s e)
answered b r (binary_search? x) = seen_as spot (search_for b r x)
answered b r (partition_point? t) = seen_as count (partition_by b r t)
answered b r (write_image? n) = looked (on_writing (length b) r n) (image (image_of (held b r)))

-- and of two
unfoldable pub answered_both : List ℕ → Rec → List ℕ → Rec → AskBoth → Look Sight
answered_both b r b' r' eq? = seen_as truth (look_at_both b r b' r' same)
answered_both b r b' r' cmp? = seen_as ordered (look_at_both b r b' r' order)
