-- The steps of `binary_search` and `partition_point`, put together as the code does. Assumes nothing.
use mathlib.Core.Bool.{Bool, true, false, ◌&&◌}
use mathlib.Core.List.{List, [], ◌∷◌}
use mathlib.Core.Path.{◌≡◌, refl, ◌∙◌, ap}
use Prim.Native.Nat.{ℕ, ◌+◌, ◌≤◌}
use native.Mathlib.Nat.{zero-add}
use native.Mathlib.Omega.{arith}
use denote.Ref.{Bor}
use lib.Dec.{eqb, ltb}
use lib.ListN.{length, get_or}
use Rattle.std.specs.Option.{is_some, option_eq, option_map, unwrap_or}
use Rattle.std.specs.Prelude.{Option, None, Some}
use Rattle.rules.proofs.Choices.{by-test₂}
use Rattle.rules.specs.Conditions.{meets, equal, below, Test}
use Rattle.rules.specs.Looks.{sees}
use Rattle.rules.specs.Records.{Rec}
use Rattle.rules.specs.Refusals.{on_queue}
use Rattle.rules.specs.Runs.{front_run, back_run}
use Rattle.rules.specs.Search.{found_at, spot_of, spot_in, place_in, point_of, place_at, search_for, partition_by}
use Rattle.rules.specs.Choices.{whether}
use Rattle.runs.proofs.Asks.{asks_seen}
use Rattle.search.specs.Handed.{begins, handed_run, counted_from}

-- a choice of both arguments is a choice of the result
choose : {A B C : Type 0} (g : A → B → C) (t : Bool) (a a' : A) (b b' : B)
    → g (whether t a a') (whether t b b') ≡ whether t (g a b) (g a' b')
unfolding whether
choose g true a a' b b' = refl
choose g false a a' b b' = refl

-- ---- in the two runs

module _ (x : ℕ) (front : List ℕ) where
  -- the first of the back run is x
  pub spot_tie : (back : List ℕ) → begins (meets (equal x)) back ≡ true → found_at (length front) ≡ spot_of x front back
  unfolding begins meets spot_of whether
  spot_tie [] e = let z : ◌≡◌ {A = ℕ} 0 1 = cc in absurd (omega arith)
  spot_tie (v ∷ s) e = rw e

  -- it is not, or there is none
  spot-run : (back : List ℕ) → begins (meets (equal x)) back ≡ false
      → spot_in x (handed_run (meets (below x)) front back) (counted_from (meets (below x)) front back)
      ≡ spot_of x front back
  unfolding begins meets spot_of handed_run counted_from whether
  spot-run [] e = refl
  spot-run (v ∷ s) e = rw e (choose (spot_in x) (ltb v x) (v ∷ s) front (length front) 0)

point_run : (f : ℕ → Bool) (front back : List ℕ)
    → counted_from f front back + place_in f (handed_run f front back) ≡ point_of f front back
unfolding begins point_of handed_run counted_from whether
point_run f front [] = zero-add _
point_run f front (v ∷ s) =
    choose (λ (n : ℕ) (l : List ℕ). n + place_in f l) (f v) (length front) 0 (v ∷ s) front
    ∙ ap (whether (f v) (length front + place_in f (v ∷ s))) (zero-add _)

-- the places in the run that is handed, counted on, are positions
counted_in : (f : ℕ → Bool) (front back : List ℕ)
    → counted_from f front back + length (handed_run f front back) ≤ length front + length back
unfolding handed_run counted_from
counted_in f front back =
    by-test₂ (begins f back) (λ (n : ℕ) (l : List ℕ). n + length l ≤ length front + length back) (λ t. omega arith)
    (λ t. omega arith)

pub counted_on : (f : ℕ → Bool) (front back run : List ℕ) (off low : ℕ) → run ≡ handed_run f front back
    → off ≡ counted_from f front back → low ≤ length run → off + low ≤ length front + length back
counted_on f front back run off low at-run at_off le = omega (arith, counted_in f front back, ap length at-run)

pub spot-handed : (x : ℕ) (front back run : List ℕ) (off : ℕ) → run ≡ handed_run (meets (below x)) front back
    → off ≡ counted_from (meets (below x)) front back → begins (meets (equal x)) back ≡ false
    → spot_in x run off ≡ spot_of x front back
spot-handed x front back run off at-run at_off e = rw (at-run, at_off) (spot-run x front back e)

pub point_handed : (f : ℕ → Bool) (front back run : List ℕ) (off low : ℕ) → run ≡ handed_run f front back
    → off ≡ counted_from f front back → low ≡ place_in f run → off + low ≡ point_of f front back
point_handed f front back run off low at-run at_off ends = rw (ends, at-run, at_off) (point_run f front back)

-- the element at low, if there is one, is x: what `get` gave is compared with it
pub hits : (run : List ℕ) (low : ℕ) (got : Option (Bor ℕ)) (x : Bor ℕ) → is_some got ≡ ltb low (length run)
    → ((d : ℕ) → unwrap_or (option_map (λ v. v.now) got) d ≡ get_or run low d)
    → option_eq (λ v w. eqb v.now w.now) got (Some x) ≡ ltb low (length run) && eqb (get_or run low 0) x.now
hits run low None x e at = rw (← e)
hits run low (Some v) x e at = rw (← e, ← at 0)

-- within the run: the halving ends at low, counted on from off
module _ (x : ℕ) (run : List ℕ) (off low : ℕ) (ends : low ≡ place_in (meets (below x)) run) (hit : Bool)
    (is : hit ≡ ltb low (length run) && eqb (get_or run low 0) x) where
  pub spot_found : hit ≡ true → found_at (off + low) ≡ spot_in x run off
  unfolding spot_in meets whether
  spot_found e = rw (← ends, ← is, e)

  pub spot_unlike : hit ≡ false → place_at (off + low) ≡ spot_in x run off
  unfolding spot_in meets whether
  spot_unlike e = rw (← ends, ← is, e)

-- ---- in the queue

-- past the tests of slots and record: front and back are its runs
module _ (b : List ℕ) (r : Rec) (first : on_queue (length b) r 0 ≡ 0) (front back : List ℕ)
    (at_front : front ≡ front_run b r 0 r.len) (at_back : back ≡ back_run b r 0 r.len) where
  pub spot_seen : (x : ℕ) → sees (spot_of x front back) ≡ search_for b r x
  unfolding search_for
  spot_seen x = rw (at_front, at_back) (asks_seen _ _ first)

  pub point_seen : (t : Test) → sees (point_of (meets t) front back) ≡ partition_by b r t
  unfolding partition_by
  point_seen t = rw (at_front, at_back) (asks_seen _ _ first)
