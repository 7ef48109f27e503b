-- Lists on which a search means something. Assumes nothing.
use Rattle.std.specs.Prelude.{Bool, true, List, ◌≡◌, ℕ, ◌<◌, ◌≤◌, length, get_or}

-- no element is greater than one behind it
abbrev pub IsSorted : List ℕ → Type 0
IsSorted l = (i j : ℕ) → i < j → j < length l → get_or l i 0 ≤ get_or l j 0

-- all that meet the test stand before all that do not: behind one that does not, none does
abbrev pub parted : (ℕ → Bool) → List ℕ → Type 0
parted f l = (i j : ℕ) → i < j → j < length l → f (get_or l j 0) ≡ true → f (get_or l i 0) ≡ true
