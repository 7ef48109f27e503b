-- How many elements an image holds. Assumes nothing.
use mathlib.Core.List.{List}
use mathlib.Core.Path.{◌≡◌, refl, ap}
use Prim.Native.Nat.{ℕ, zero, suc, ◌≤◌}
use lib.ListN.{length, drop}
use Rattle.rules.proofs.Refusals.{room_ok, slots_ok}
use Rattle.rules.proofs.Choices.{passed}
use Rattle.rules.specs.Images.{fours, elements_in, how_many, laid_out}
use Rattle.rules.specs.Refusals.{on_slots, on_layout, room}

length-fours : (n : ℕ) (s : List ℕ) → length (fours n s) ≡ n
unfolding fours
length-fours zero s = refl
length-fours (suc n) s = ap suc (length-fours n (drop 4 s))

pub length-elements : (s : List ℕ) → length (elements_in s) ≡ how_many s
unfolding elements_in
length-elements s = length-fours (how_many s) (drop 3 s)

-- an image that is read fits
pub reading_fits : (c : ℕ) (s : List ℕ) → on_slots c (on_layout (laid_out s) (room c (how_many s))) ≡ 0 → how_many s ≤ c
unfolding on_layout
reading_fits c s e = room_ok c (how_many s) (passed (laid_out s) 4 _ (slots_ok c _ e).1).1
