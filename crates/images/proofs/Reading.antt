-- Image reading: the layout, the elements one by one, and one law for each return. Assumes nothing.
use mathlib.Core.Bool.{false, true}
use mathlib.Core.List.{List, ◌++◌, ◌∷◌, []}
use mathlib.Core.Logic.{◌≢◌}
use mathlib.Core.Option.{none, some}
use mathlib.Core.Path.{◌≡◌, refl, ap, ◌∙◌}
use Prim.Native.Nat.{ℕ, ◌+◌, ◌*◌, ◌-◌, zero, suc, ◌≤◌, ◌<◌}
use native.Mathlib.Omega.{arith}
use borrow.Author.Tests.{lt-leb}
use lib.ListN.{length, take, drop}
use lib.Seq.{drop-drop, sets-eq, length-take-le}
use Rattle.std.proofs.lemmas.Grind.{common_steps}
use Rattle.std.proofs.lemmas.List.{take_rest}
use Rattle.queue.specs.Answers.{number_of}
use Rattle.rules.proofs.Refusals.{slots_asks, no_room, some_room}
use Rattle.rules.proofs.Ring.{write_straight}
use Rattle.rules.proofs.Choices.{unless-stop}
use Rattle.rules.specs.Images.{laid_out, how_many, big_endian, fours, elements_in}
use Rattle.rules.specs.Makes.{told_make, read_image, none_made, made_with}
use Rattle.rules.specs.Records.{Rec, new_rec}
use Rattle.rules.specs.Refusals.{most_slots, on_slots, on_layout, room}
use Rattle.rules.specs.Slots.{lay}
use Rattle.rules.specs.Choices.{ask, unless}
use Rattle.queue.specs.declared.refusals.Refusal.TheVariants.{Slots, Room, Image}

-- ---- the elements, one by one

pub length-fours : (n : ℕ) (s : List ℕ) → length (fours n s) ≡ n
unfolding fours
length-fours zero s = refl
length-fours (suc n) s = ap suc (length-fours n (drop 4 s))

pub fours_none : (s : List ℕ) → fours 0 s ≡ []
unfolding fours
fours_none s = refl

-- and the last of them
pub fours_last : (i n : ℕ) (s : List ℕ) → n ≡ i + 1
    → fours n s ≡ fours i s ++ big_endian 0 (take 4 (drop (4 * i) s)) ∷ []
unfolding fours
fours_last i zero s e = absurd (omega arith)
fours_last zero (suc n) s e =
    let none : n ≡ 0 = omega arith in ap (λ (k : ℕ). big_endian 0 (take 4 s) ∷ fours k (drop 4 s)) none
fours_last (suc i) (suc n) s e =
    let next : 4 + 4 * i ≡ 4 * suc i = omega arith in
    ap (λ (l : List ℕ). big_endian 0 (take 4 s) ∷ l)
    (fours_last i n (drop 4 s) (omega arith)
    ∙ ap (λ (x : List ℕ). fours i (drop 4 s) ++ big_endian 0 (take 4 x) ∷ []) (drop-drop (4 * i) 4 s)
    ∙ ap (λ (k : ℕ). fours i (drop 4 s) ++ big_endian 0 (take 4 (drop k s)) ∷ []) next)

-- for the loop that stores them
pub ruleset takes = (fours_none, fours_last, common_steps)

-- ---- the returns of `read_image`

module _ (b s : List ℕ) where
  stopped : (n : ℕ) → n ≢ 0 → on_slots (length b) (on_layout (laid_out s) (room (length b) (how_many s))) ≡ n
      → (record { refused = n; moved = 0; made = none }, b) ≡ told_make (read_image b s)
  unfolding read_image none_made
  stopped n ne e = rw (e, unless-stop n _ _ ne)

  pub reads_slots : most_slots < length b
      → (record { refused = number_of Slots; moved = 0; made = none }, b) ≡ told_make (read_image b s)
  unfolding on_slots ask number_of
  reads_slots lt = stopped 1 (λ e. omega arith) (rw (lt-leb (length b) most_slots lt))

  module _ (few : length b ≤ most_slots) where
    pub reads_broken : laid_out s ≡ false
        → (record { refused = number_of Image; moved = 0; made = none }, b) ≡ told_make (read_image b s)
    unfolding on_layout ask number_of
    reads_broken e = stopped 5 (λ z. omega arith) (slots_asks (length b) _ few ∙ rw e)

    module _ (laid : laid_out s ≡ true) where
      pub reads_full : length b < how_many s
          → (record { refused = number_of Room; moved = 0; made = none }, b) ≡ told_make (read_image b s)
      unfolding on_layout ask number_of
      reads_full lt = stopped 4 (λ z. omega arith) (slots_asks (length b) _ few ∙ rw laid (no_room (length b) _ lt))

      -- l is what is stored in the first n slots
      pub reads : (n : ℕ) (r : Rec) (l : List ℕ) → n ≡ how_many s → n ≤ length b
          → l ≡ fours (length (take n b)) (take (length s - 3) (drop 3 s)) → r ≡ new_rec n
          → (record { refused = 0; moved = 0; made = some r }, l ++ drop n b) ≡ told_make (read_image b s)
      unfolding read_image on_layout ask unless made_with elements_in
      reads n r l many fits read made =
          let none_refused : on_slots (length b) (on_layout (laid_out s) (room (length b) n)) ≡ 0 =
          slots_asks (length b) _ few ∙ rw laid (some_room (length b) _ fits) in
          let all : l ≡ fours n (drop 3 s) =
          read ∙ (λ i. fours (length-take-le n b fits i) (take_rest s 3 i)) in
          let long : 0 + length l ≡ n = omega (arith, ap length all, length-fours n (drop 3 s)) in
          let stored : lay b 0 l ≡ l ++ drop n b =
          write_straight (length b) b 0 l (omega arith) ∙ sets-eq l b 0 (omega arith)
          ∙ ap (λ (k : ℕ). l ++ drop k b) long in
          rw (← many, none_refused, made, length-fours, ← all, stored)

-- one law for each return
pub ruleset returns = (reads_slots, reads_broken, reads_full, reads)
