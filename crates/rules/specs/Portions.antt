-- Sequences in which a queue is moved: portions one behind the other, the whole move, and the calls that reach a queue
-- whose mark stands. Assumes nothing.
use Rattle.std.specs.Prelude.{List, [], ◌∷◌, map, ◌≡◌, ℕ, ◌+◌}
use Rattle.rules.specs.Sequences.{Side, side_a, side_b, Call, Turn, Pair, step, run, of_queue, changing, freshly, reading, of_both, splitting, moving, porting}

-- the call k, made on the queue d
abbrev pub turn_on : Side → Call → Turn
turn_on d k = record { side = d; call = k }

-- the whole move of the queue d into the other's slots, and a portion of it into the other
abbrev pub whole_move : Side → Turn
whole_move d = turn_on d (of_both moving)

abbrev pub portion : Side → ℕ → Turn
portion d n = turn_on d (of_both (porting n))

-- portions with no other call between
abbrev pub portions : Side → List ℕ → List Turn
portions d ns = map (portion d) ns

-- every call of a sequence is accepted
pub data AllAccepted : Pair → List Turn → Type 0 where
  no_more : {s : Pair} → AllAccepted s []
  accepting : {s : Pair} {t : Turn} {ts : List Turn} → (step s t).refused ≡ 0 → AllAccepted (step s t).queues ts
      → AllAccepted s (t ∷ ts)

-- the moved counts of its calls, added up
unfoldable pub moved_over : Pair → List Turn → ℕ
moved_over s [] = 0
moved_over s (t ∷ ts) = (step s t).moved + moved_over (step s t).queues ts

-- the sequence does what the one call does, which is accepted: it leaves the same queues, slots and records with their
-- marks, and its moved counts add up to that call's
pub record DoesAs (s : Pair) (ts : List Turn) (t : Turn) : Type 0 where
  pub accepted : (step s t).refused ≡ 0
  pub queues : run s ts ≡ (step s t).queues
  pub moved : moved_over s ts ≡ (step s t).moved

-- the other of two queues
unfoldable pub across : Side → Side
across side_a = side_b
across side_b = side_a

-- The calls that reach the queue d while its mark stands: a portion into it, and those that make its slots anew, which
-- are fresh, image reading, and `split_off` and the whole move of the other queue into its slots.
pub data Reaches (d : Side) : Turn → Type 0 where
  portion_into : (n : ℕ) → Reaches d (portion (across d) n)
  by_fresh : Reaches d (turn_on d (of_queue (changing freshly)))
  by_reading : (bytes : List ℕ) → Reaches d (turn_on d (of_queue (changing (reading bytes))))
  by_split : (at : ℕ) → Reaches d (turn_on (across d) (of_both (splitting at)))
  by_move : Reaches d (whole_move (across d))

-- one of the calls of a sequence does
pub data OneReaches (d : Side) : List Turn → Type 0 where
  this_one : {t : Turn} {ts : List Turn} → Reaches d t → OneReaches d (t ∷ ts)
  later_one : {t : Turn} {ts : List Turn} → OneReaches d ts → OneReaches d (t ∷ ts)
