-- Search, by its steps. Assumes nothing.
use Rattle.std.specs.Prelude.{Bool, ◌&&◌, List, [], ◌∷◌, ℕ, ◌+◌, ◌-◌, ◌/◌, zero, suc, ltb, eqb, get_or, length}
use Rattle.rules.specs.Conditions.{Test, meets}
use Rattle.rules.specs.Looks.{Look, looked}
use Rattle.rules.specs.Records.{Rec}
use Rattle.rules.specs.Refusals.{on_queue}
use Rattle.rules.specs.Runs.{front_run, back_run}
use Rattle.rules.specs.Choices.{whether}

-- where the halving looks
abbrev pub middle : ℕ → ℕ → ℕ
middle low high = low + (high - low) / 2

-- at most k steps: while low < high, look at the middle; less sets low one past it, otherwise high to it
unfoldable pub halving : ℕ → (ℕ → Bool) → List ℕ → ℕ → ℕ → ℕ
halving zero is_less s low high = low
halving (suc k) is_less s low high =
    whether (ltb low high)
    (whether (is_less (get_or s (middle low high) 0)) (halving k is_less s (middle low high + 1) high)
    (halving k is_less s low (middle low high)))
    low

-- within a run of n: low 0, high n; each step lowers high - low, so n of them are enough
unfoldable pub place_in : (ℕ → Bool) → List ℕ → ℕ
place_in is_less s = halving (length s) is_less s 0 (length s)

-- found there, or the place to insert
pub data Spot : Type 0 where
  found_at place_at : ℕ → Spot

-- found if low < n and the element at low is x, else low is the place to insert; counted on from off
unfoldable pub spot_in : ℕ → List ℕ → ℕ → Spot
spot_in x s off =
    let low = place_in (λ v. ltb v x) s in
    whether (ltb low (length s) && eqb (get_or s low 0) x) (found_at (off + low)) (place_at (off + low))

-- look at the first of the back run. Equal: found at the front run's
-- length. Less than x: the back run; greater, or no back run: the front run
unfoldable pub spot_of : ℕ → List ℕ → List ℕ → Spot
spot_of x front [] = spot_in x front 0
spot_of x front (v ∷ s) =
    whether (eqb v x) (found_at (length front))
    (whether (ltb v x) (spot_in x (v ∷ s) (length front)) (spot_in x front 0))

-- `partition_point`: a met test stands for less, an unmet one for greater, and low is the answer
unfoldable pub point_of : (ℕ → Bool) → List ℕ → List ℕ → ℕ
point_of is_less front [] = place_in is_less front
point_of is_less front (v ∷ s) = whether (is_less v) (length front + place_in is_less (v ∷ s)) (place_in is_less front)

-- `binary_search` on a queue
unfoldable pub search_for : List ℕ → Rec → ℕ → Look Spot
search_for b r x = looked (on_queue (length b) r 0) (spot_of x (front_run b r 0 r.len) (back_run b r 0 r.len))

-- `partition_point` on a queue
unfoldable pub partition_by : List ℕ → Rec → Test → Look ℕ
partition_by b r t = looked (on_queue (length b) r 0)
    (point_of (meets t) (front_run b r 0 r.len) (back_run b r 0 r.len))
