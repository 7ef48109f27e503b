-- The calls that only look at a queue, or at two. Assumes nothing.
use Rattle.std.specs.Prelude.{Bool, false, ◌||◌, true, ◌&&◌, List, [], ◌∷◌, ℕ, ◌-◌, eqb, ltb, length}
use Rattle.std.proofs.Math.Option.{Option, none, some}
use Rattle.std.proofs.Math.ListN.{get_elem?}
use Rattle.rules.specs.Records.{Rec, held}
use Rattle.rules.specs.Refusals.{on_queue}
use Rattle.rules.specs.Choices.{unless, whether}

-- the refusal number, or what was seen
pub data Look (A : Type 0) : Type 0 where
  refuses : ℕ → Look A
  sees : A → Look A

-- a where nothing is refused
unfoldable pub looked : {A : Type 0} → ℕ → A → Look A
looked n a = unless n (sees a) (refuses n)

-- the same, what was seen being told by f
unfoldable pub seen_as : {A B : Type 0} → (A → B) → Look A → Look B
seen_as f (refuses n) = refuses n
seen_as f (sees a) = sees (f a)

-- of what a look gives: the refusal number, 0 if there is none; and what was seen, if it was not refused
unfoldable pub refused_by : {A : Type 0} → Look A → ℕ
refused_by (refuses n) = n
refused_by (sees a) = 0

unfoldable pub seen_by : {A : Type 0} → Look A → Option A
seen_by (refuses n) = none
seen_by (sees a) = some a

-- what `f` sees in the list of a queue
unfoldable pub look_at : {A : Type 0} → List ℕ → Rec → (List ℕ → A) → Look A
look_at b r f = looked (on_queue (length b) r 0) (f (held b r))

-- what `f` sees in the lists of two queues: 1 and 2 for the queue called on, then for the second
unfoldable pub look_at_both : {A : Type 0} → List ℕ → Rec → List ℕ → Rec → (List ℕ → List ℕ → A) → Look A
look_at_both b r b' r' f = looked (on_queue (length b) r (on_queue (length b') r' 0)) (f (held b r) (held b' r'))

-- `get`, `front` and `back`: one element; there may be none
abbrev pub at_position : ℕ → List ℕ → Option ℕ
at_position i l = get_elem? l i

abbrev pub at_back : List ℕ → Option ℕ
at_back l = get_elem? l (length l - 1)

-- `contains`: x stands in the list
unfoldable pub has : ℕ → List ℕ → Bool
has x [] = false
has x (v ∷ l) = eqb v x || has x l

-- equality of two lists
unfoldable pub same : List ℕ → List ℕ → Bool
same [] [] = true
same [] (w ∷ m) = false
same (v ∷ l) [] = false
same (v ∷ l) (w ∷ m) = eqb v w && same l m

-- lexicographic order: the first elements that differ decide, else the shorter list comes first
pub data Order : Type 0 where
  less alike greater : Order

unfoldable pub order : List ℕ → List ℕ → Order
order [] [] = alike
order [] (w ∷ m) = less
order (v ∷ l) [] = greater
order (v ∷ l) (w ∷ m) = whether (eqb v w) (order l m) (whether (ltb v w) less greater)
