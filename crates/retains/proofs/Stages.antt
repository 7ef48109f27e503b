-- The two stages of `retain`. Assumes nothing.
use Rattle.std.proofs.Common.{Bool, true, false, List, [], ◌++◌, ◌≡◌, refl, sym, ap, ◌∙◌, arith}
use Rattle.std.proofs.Common.{ℕ, ◌≤◌, ◌<◌, ◌+◌, ◌-◌, length, length-append, take, drop, set, get_or}
use Rattle.std.proofs.lemmas.Grind.{common_steps}
use Rattle.std.proofs.lemmas.List.Folds.{prefix_len-append}
use Rattle.std.proofs.lemmas.List.Sums.{prefix_len-le-length}
use Rattle.std.specs.List.{prefix_len}
use mir.Val.{bool_byte}
use Rattle.retains.proofs.Keeps.{those_append}
use Rattle.rules.proofs.Count.{length-those}
use Rattle.rules.proofs.Held.{length-held}
use Rattle.rules.proofs.Places.{place-low, place-place}
use Rattle.rules.proofs.Ring.{read_add, read-write, length-read, length-write, write-append, read_straight}
use Rattle.rules.specs.Conditions.{those}
use Rattle.rules.specs.Choices.{whether}
use Rattle.rules.specs.Places.{place}
use Rattle.rules.specs.Records.{Rec, held}
use Rattle.rules.specs.Slots.{lay, list_of, write, read}

-- ---- stage 1: the list l is `front` and behind it `back`; i elements of `front` stand before the first rejected one

module _ (f : ℕ → Bool) (front back l : List ℕ) (parts : front ++ back ≡ l) (i : ℕ)
    (ahead : i ≡ prefix_len f front) where
  pub leading_stops : i < length front → i ≡ prefix_len f l
  leading_stops lt = rw (← parts) (grind (arith, common_steps, prefix_len-append))

  pub leading_passes : length front ≤ i → (j : ℕ) → j ≡ prefix_len f back → i + j ≡ prefix_len f l
  leading_passes le j rest = rw (← parts) (grind (arith, common_steps, prefix_len-append, prefix_len-le-length))

-- of the elements that a queue holds
pub leading_upto : (f : ℕ → Bool) (b : List ℕ) (r : Rec) (k : ℕ) → k ≡ prefix_len f (held b r) → k ≤ r.len
leading_upto f b r k at-k = omega (arith, at-k, prefix_len-le-length f (held b r), length-held b r)

-- ---- stage 2, in one part: those kept of its first i elements stand in the front of d, and the next one is stored
-- behind them

module _ (f : ℕ → Bool) (l d : List ℕ) (kept i : ℕ) (few : kept ≤ i) (lt : i < length l) (fits : length l ≤ length d)
    (stored : take kept d ≡ those f (take i l)) where
  -- t is the test's answer on it
  pub sifted : (t : Bool) → t ≡ f (get_or l i 0) → (more : ℕ) → more ≡ bool_byte t
      → (kept + more ≤ i + 1) × (take (kept + more) (set d kept (get_or l i 0)) ≡ those f (take (i + 1) l))
  unfolding those whether
  sifted true tested more one = grind (arith, common_steps, those_append)
  sifted false tested more none = grind (arith, common_steps, those_append)

-- ---- stage 2: `moved` elements were stored, the next one goes to slot p; `left` elements of n are still
-- to be looked at, from slot q on. In the end the slots are `done`, and m elements were stored

pub record Moving (f : ℕ → Bool) (cap n m : ℕ) (done b : List ℕ) (p q left moved : ℕ) : Type 0 where
  pub long : length b ≡ cap
  pub placed : p < cap
  pub source : q < cap
  pub gap : ℕ
  pub some : 0 < gap
  pub ahead : q ≡ place cap p gap
  pub fits : gap + left ≤ cap
  pub few : moved + left ≤ n
  pub slots : write cap b p (those f (read cap b q left)) ≡ done
  pub count : moved + length (those f (read cap b q left)) ≡ m

-- of n elements that stand in a row, as a part of the slots has them, those that are kept
pub kept_straight : (f : ℕ → Bool) (b : List ℕ) (i n : ℕ) (kept : List ℕ)
    → kept ≡ those f (take (i + n - i) (drop i b)) → i + n ≤ length b → kept ≡ those f (list_of b i n)
kept_straight f b i n kept those_kept le =
    let long : i + n - i ≡ n = omega arith in
    those_kept
    ∙ ap (λ (k : ℕ). those f (take k (drop i b))) long
    ∙ ap (those f) (sym (read_straight (length b) b i n refl le))

module _ (f : ℕ → Bool) (cap len m : ℕ) (done b : List ℕ) (p q left moved : ℕ)
    (s : Moving f cap len m done b p q left moved) where
  -- the next n elements were looked at, and those of them that are kept were stored from slot p on
  module _ (i n : ℕ) (le : n ≤ left) (at_i : i ≡ q) (kept : List ℕ) (those_kept : kept ≡ those f (list_of b i n)) where
    rest : List ℕ
    rest = read cap b (place cap q n) (left - n)

    looked_at : kept ≡ those f (read cap b q n)
    looked_at = those_kept ∙ (λ t. those f (read (s.long t) b (at_i t) n))

    upto : length kept ≤ n
    upto = omega (arith, ap length looked_at, length-those f (read cap b q n), length-read cap b q n)

    all : those f (read cap b q left) ≡ kept ++ those f rest
    unfolding rest
    all =
        let parts : left ≡ n + (left - n) = omega arith in
        ap (λ (k : ℕ). those f (read cap b q k)) parts
        ∙ ap (those f) (read_add cap b q n (left - n) s.source (omega (arith, s.fits)))
        ∙ those_append f (read cap b q n) _
        ∙ ap (λ (l : List ℕ). l ++ those f rest) (sym looked_at)

    further : place cap q n ≡ place cap p (s.gap + n)
    further = ap (λ (j : ℕ). place cap j n) s.ahead ∙ place-place cap p s.placed s.gap n (omega (arith, s.fits))

    stays : read cap (write cap b p kept) (place cap q n) (left - n) ≡ rest
    unfolding rest
    stays =
        rw further
        (read-write cap b p kept (s.gap + n) (left - n) s.placed (omega (arith, upto)) (omega (arith, s.fits)))

    pub moving_on : (b' : List ℕ) (p' q' : ℕ) → b' ≡ lay b p kept → p' ≡ place cap p (length kept) → q' ≡ place cap q n
        → Moving f cap len m done b' p' q' (left - n) (moved + length kept)
    unfolding rest
    moving_on b' p' q' laid at-p' at-q' =
        let at_b' : b' ≡ write cap b p kept = laid ∙ ap (λ (c : ℕ). write c b p kept) s.long in
        rw (at_b', at-p', at-q') (record {
          long = length-write cap b p kept ∙ s.long;
          placed = place-low cap p s.placed (length kept) (omega (arith, upto, s.fits));
          source = place-low cap q s.source n (omega (arith, s.fits));
          gap = s.gap + n - length kept;
          some = omega (arith, s.some, upto);
          ahead = further ∙ ap (place cap p) (omega (arith, upto))
              ∙ sym (place-place cap p s.placed (length kept) (s.gap + n - length kept) (omega (arith, s.fits, upto)));
          fits = omega (arith, s.fits, upto);
          few = omega (arith, s.few, upto);
          slots =
              ap (λ (l : List ℕ). write cap (write cap b p kept) (place cap p (length kept)) (those f l)) stays
              ∙ sym (write-append cap b p kept (those f rest) s.placed (omega (arith, upto, s.fits)))
              ∙ ap (write cap b p) (sym all)
              ∙ s.slots;
          count = omega (
            arith,
            s.count,
            ap length all
                ∙ length-append kept (those f rest),
            ap (λ (l : List ℕ). length (those f l)) stays,
          );
        })

  -- nothing is left
  module _ (none : left ≡ 0) where
    nothing : those f (read cap b q left) ≡ []
    unfolding read those
    nothing = ap (λ (k : ℕ). those f (read cap b q k)) none

    pub moving-slots : b ≡ done
    unfolding write
    moving-slots = ap (write cap b p) (sym nothing) ∙ s.slots

    pub moving-count : moved ≡ m
    moving-count = omega (arith, s.count, ap length nothing)
