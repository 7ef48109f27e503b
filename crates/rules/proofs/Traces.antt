-- Elements with the slots in which they stood: their parts, and how many stand elsewhere. Assumes nothing.
use mathlib.Core.Bool.{not, Bool, true, false}
use mathlib.Core.List.{List, [], map, ◌∷◌, ◌++◌, append_assoc}
use mathlib.Core.Logic.{◌≢◌}
use mathlib.Core.Path.{◌≡◌, refl, ap, ◌∙◌, sym}
use Prim.Native.Nat.{ℕ, zero, suc, ◌<◌, ◌≤◌, ◌+◌, ◌-◌}
use native.Mathlib.Nat.{zero-add, suc-add, not-suc-le-zero, suc-ne-zero, le_of_suc-le-suc}
use native.Mathlib.Omega.{arith}
use borrow.Author.Tests.{eq-eqb, ne_eqb}
use lib.Dec.{eqb, eqb→eq}
use lib.ListN.{length, get_or, take, drop, length-take, take-append-drop, set, length-map}
use lib.Seq.{take_at, drop_at}
use Rattle.rules.proofs.Places.{place_zero, place_suc, place-low, wrap}
use Rattle.rules.proofs.Choices.{by_test, cases, neqb→ne}
use Rattle.rules.specs.Count.{one_if}
use Rattle.rules.specs.Moves.{traces_from, Traced, slot_of, places_from, elsewhere, strays, traced}
use Rattle.rules.specs.Places.{place}
use Rattle.rules.specs.Sequences.{Side, side_a, side_b}
use Rattle.rules.specs.Slots.{read}
use Rattle.rules.specs.Choices.{whether}

module _ (d : Side) (cap : ℕ) (b : List ℕ) where
  pub length_traces : (h n : ℕ) → length (traces_from d cap b h n) ≡ n
  unfolding traces_from
  length_traces h zero = refl
  length_traces h (suc n) = ap suc (length_traces (place cap h 1) n)

  pub traces_none : (h : ℕ) → traces_from d cap b h 0 ≡ []
  unfolding traces_from
  traces_none h = refl

  -- without the slots they are the elements
  pub numbers_traces : (h n : ℕ) → map (λ (e : Traced). e.number) (traces_from d cap b h n) ≡ read cap b h n
  unfolding traces_from read
  numbers_traces h zero = refl
  numbers_traces h (suc n) = ap (λ (l : List ℕ). get_or b h 0 ∷ l) (numbers_traces (place cap h 1) n)

  -- a stretch and the one behind it
  pub traces_add : (h m n : ℕ) → h < cap → m ≤ cap
      → traces_from d cap b h (m + n) ≡ traces_from d cap b h m ++ traces_from d cap b (place cap h m) n
  unfolding traces_from
  traces_add h zero n k le = rw (zero-add, place_zero cap h k)
  traces_add h (suc m) n k le =
      rw (suc-add, ← place_suc cap h k m (omega arith))
      (ap (λ (l : List Traced). record { number = get_or b h 0; origin = slot_of d h } ∷ l)
      (traces_add (place cap h 1) m n (place-low cap h k 1 (omega arith)) (omega arith)))

  module _ (h : ℕ) (in_ring : h < cap) (k n : ℕ) (le : k ≤ n) (fits : n ≤ cap) where
    split : traces_from d cap b h n ≡ traces_from d cap b h k ++ traces_from d cap b (place cap h k) (n - k)
    split = ap (traces_from d cap b h) (omega arith) ∙ traces_add h k (n - k) in_ring (omega arith)

    pub traces_take : take k (traces_from d cap b h n) ≡ traces_from d cap b h k
    traces_take = ap (take k) split ∙ take_at (traces_from d cap b h k) _ k (length_traces h k)

    pub traces_drop : drop k (traces_from d cap b h n) ≡ traces_from d cap b (place cap h k) (n - k)
    traces_drop = ap (drop k) split ∙ drop_at (traces_from d cap b h k) _ k (length_traces h k)

  -- the element at position i, and its slot
  pub origin_at : (h n i : ℕ) (e : Traced) → h < cap → n ≤ cap → i < n
      → (get_or (traces_from d cap b h n) i e).origin ≡ slot_of d (place cap h i)
  unfolding traces_from
  origin_at h zero i e k fits lt = absurd (not-suc-le-zero lt)
  origin_at h (suc n) zero e k fits lt = ap (slot_of d) (sym (place_zero cap h k))
  origin_at h (suc n) (suc i) e k fits lt =
      origin_at (place cap h 1) n i e (place-low cap h k 1 (omega arith)) (omega arith) (omega arith)
      ∙ ap (slot_of d) (place_suc cap h k i (omega arith))

-- ---- the slots

module _ (cap : ℕ) where
  pub length_places : (h n : ℕ) → length (places_from cap h n) ≡ n
  unfolding places_from
  length_places h zero = refl
  length_places h (suc n) = ap suc (length_places (place cap h 1) n)

  pub places_add : (h m n : ℕ) → h < cap → m ≤ cap
      → places_from cap h (m + n) ≡ places_from cap h m ++ places_from cap (place cap h m) n
  unfolding places_from
  places_add h zero n k le = rw (zero-add, place_zero cap h k)
  places_add h (suc m) n k le =
      rw (suc-add, ← place_suc cap h k m (omega arith))
      (ap (λ (l : List ℕ). h ∷ l)
      (places_add (place cap h 1) m n (place-low cap h k 1 (omega arith)) (omega arith)))

  pub place_at_lem : (h n i : ℕ) → h < cap → n ≤ cap → i < n → get_or (places_from cap h n) i 0 ≡ place cap h i
  unfolding places_from
  place_at_lem h zero i k fits lt = absurd (not-suc-le-zero lt)
  place_at_lem h (suc n) zero k fits lt = sym (place_zero cap h k)
  place_at_lem h (suc n) (suc i) k fits lt =
      place_at_lem (place cap h 1) n i (place-low cap h k 1 (omega arith)) (omega arith) (omega arith)
      ∙ place_suc cap h k i (omega arith)

-- ---- how many stand elsewhere

-- k elements, the first of which goes from slot p to slot q: none, or each of them
unfoldable pub stretch : ℕ → ℕ → ℕ → ℕ
stretch p q k = whether (eqb p q) 0 k

pub stretch_stays : (p q k : ℕ) → p ≡ q → stretch p q k ≡ 0
unfolding stretch whether
stretch_stays p q k e = rw (eq-eqb p q e)

pub stretch_goes : (p q k : ℕ) → p ≢ q → stretch p q k ≡ k
unfolding stretch whether
stretch_goes p q k ne = rw (ne_eqb p q ne)

pub stretch_none : (p q : ℕ) → stretch p q 0 ≡ 0
unfolding stretch
stretch_none p q = by_test (eqb p q) (λ m. m ≡ 0) (λ t. refl) (λ t. refl)

pub own_slot : (d : Side) (s p : ℕ) → elsewhere d (slot_of d s) p ≡ one_if (not (eqb s p))
unfolding elsewhere
own_slot side_a s p = refl
own_slot side_b s p = refl

module _ (d : Side) where
  pub strays-append : (l m : List Traced) (ps qs : List ℕ) → length l ≡ length ps
      → strays d (l ++ m) (ps ++ qs) ≡ strays d l ps + strays d m qs
  unfolding strays
  strays-append [] m [] qs e = omega arith
  strays-append [] m (p ∷ ps) qs e = absurd (suc-ne-zero (length ps) (sym e))
  strays-append (x ∷ l) m [] qs e = absurd (suc-ne-zero (length l) e)
  strays-append (x ∷ l) m (p ∷ ps) qs e = omega (arith, strays-append l m ps qs (omega arith))

  pub strays_none : (ps : List ℕ) → strays d [] ps ≡ 0
  unfolding strays
  strays_none ps = refl

  -- a part of a list where none stands elsewhere
  strays_split : (i : ℕ) (l : List Traced) (ps : List ℕ) → length l ≡ length ps
      → strays d (take i l) (take i ps) + strays d (drop i l) (drop i ps) ≡ strays d l ps
  strays_split i l ps e =
      let long : length (take i l) ≡ length (take i ps) = simp length-take (omega arith) in
      sym (strays-append (take i l) (drop i l) (take i ps) (drop i ps) long) ∙ rw (take-append-drop, take-append-drop)

  pub none_taken : (i : ℕ) (l : List Traced) (ps : List ℕ) → length l ≡ length ps → strays d l ps ≡ 0
      → strays d (take i l) (take i ps) ≡ 0
  none_taken i l ps e z = omega (arith, strays_split i l ps e)

  pub none_dropped : (i : ℕ) (l : List Traced) (ps : List ℕ) → length l ≡ length ps → strays d l ps ≡ 0
      → strays d (drop i l) (drop i ps) ≡ 0
  none_dropped i l ps e z = omega (arith, strays_split i l ps e)

  -- all of them stood in the other queue
  pub strays_crossed : (l : List Traced) (ps : List ℕ) → length l ≡ length ps
      → ((i : ℕ) (e : Traced) → i < length l → (p : ℕ) → elsewhere d (get_or l i e).origin p ≡ 1)
      → strays d l ps ≡ length l
  unfolding strays
  strays_crossed [] ps e f = refl
  strays_crossed (x ∷ l) [] e f = absurd (suc-ne-zero (length l) e)
  strays_crossed (x ∷ l) (p ∷ ps) e f =
      omega (arith, f 0 x (omega arith) p, strays_crossed l ps (omega arith) (λ i y lt q. f (suc i) y (omega arith) q))

  -- one element is replaced
  pub strays-set : (l : List Traced) (ps : List ℕ) (i : ℕ) (x e : Traced) → i < length l → length l ≡ length ps
      → strays d (set l i x) ps + elsewhere d (get_or l i e).origin (get_or ps i 0)
      ≡ strays d l ps + elsewhere d x.origin (get_or ps i 0)
  unfolding strays
  strays-set [] ps i x e lt long = absurd (not-suc-le-zero lt)
  strays-set (y ∷ l) [] i x e lt long = absurd (suc-ne-zero (length l) long)
  strays-set (y ∷ l) (p ∷ ps) zero x e lt long = omega arith
  strays-set (y ∷ l) (p ∷ ps) (suc i) x e lt long =
      omega (arith, strays-set l ps i x e (le_of_suc-le-suc lt) (omega arith))

  -- what comes from outside stood nowhere
  pub strays-made : (vs ps : List ℕ) → strays d (map traced.brought vs) ps ≡ 0
  unfolding strays elsewhere
  strays-made [] ps = refl
  strays-made (v ∷ vs) [] = refl
  strays-made (v ∷ vs) (p ∷ ps) = omega (arith, strays-made vs ps)

  module _ (cap : ℕ) (b : List ℕ) where
    -- two places as far apart stay apart as both step on
    same_step : (h h' : ℕ) → h < cap → h' < cap → eqb (place cap h 1) (place cap h' 1) ≡ eqb h h'
    same_step h h' k k' =
        cases (eqb h h') (λ t. let e = eqb→eq h h' t in eq-eqb (place cap h 1) (place cap h' 1)
        (ap (λ (p : ℕ). place cap p 1) e) ∙ sym (eq-eqb h h' e))
        (λ t. let ne = neqb→ne h h' t in
        rw (
          ne_eqb h h' ne,
          ne_eqb (place cap h 1) (place cap h' 1)
              (λ e. ne (omega (arith, wrap cap (h + 1) (omega arith), wrap cap (h' + 1) (omega arith)))),
        ))

    -- one element, and those behind it
    stretch_more : (h h' k : ℕ) → h < cap → h' < cap
        → one_if (not (eqb h h')) + stretch (place cap h 1) (place cap h' 1) k ≡ stretch h h' (suc k)
    unfolding stretch whether one_if
    stretch_more h h' k i i' = rw (same_step h h' i i') (by_flag (eqb h h'))
      where
        by_flag : (t : Bool) → one_if (not t) + whether t 0 k ≡ whether t 0 (suc k)
        by_flag true = omega arith
        by_flag false = omega arith

    -- each of k elements stands elsewhere, if the first does
    pub strays_stretch : (h h' k : ℕ) → h < cap → h' < cap → k ≤ cap
        → strays d (traces_from d cap b h k) (places_from cap h' k) ≡ stretch h h' k
    unfolding traces_from places_from strays
    strays_stretch h h' zero i i' le = sym (stretch_none h h')
    strays_stretch h h' (suc k) i i' le =
        rw (
          own_slot d h h',
          strays_stretch (place cap h 1) (place cap h' 1) k (place-low cap h i 1 (omega arith))
              (place-low cap h' i' 1 (omega arith)) (omega arith),
        )
        (stretch_more h h' k i i')

    -- the slots of three stretches
    three_places : (h' i m k : ℕ) → h' < cap → i + m + k ≤ cap
        → places_from cap h' (i + m + k)
        ≡ places_from cap h' i ++ (places_from cap (place cap h' i) m ++ places_from cap (place cap h' (i + m)) k)
    three_places h' i m k in_ring le =
        places_add cap h' (i + m) k in_ring (omega arith)
        ∙ ap (λ (l : List ℕ). l ++ places_from cap (place cap h' (i + m)) k)
        (places_add cap h' i m in_ring (omega arith))
        ∙ append_assoc (places_from cap h' i) (places_from cap (place cap h' i) m)
        (places_from cap (place cap h' (i + m)) k)

    -- THE SHAPE OF MOST CALLS: the first i elements, then some
    -- from outside, then those from position j on, laid from h' on
    pub strays-cut : (h h' n i j : ℕ) (vs : List ℕ) → h < cap → h' < cap → n ≤ cap → i ≤ j → j ≤ n
        → i + length vs + (n - j) ≤ cap
        → strays d (take i (traces_from d cap b h n) ++ (map traced.brought vs ++ drop j (traces_from d cap b h n)))
        (places_from cap h' (i + length vs + (n - j)))
        ≡ stretch h h' i + stretch (place cap h j) (place cap h' (i + length vs)) (n - j)
    strays-cut h h' n i j vs g g' fits le le' room =
        let k = n - j in
        let v = map traced.brought vs in
        let long : length v ≡ length (places_from cap (place cap h' i) (length vs)) =
        length-map vs traced.brought ∙ sym (length_places cap (place cap h' i) (length vs)) in
        let front : length (traces_from d cap b h i) ≡ length (places_from cap h' i) =
        length_traces d cap b h i ∙ sym (length_places cap h' i) in
        rw (
          traces_take d cap b h g i n (omega arith) fits,
          traces_drop d cap b h g j n le' fits,
          three_places h' i (length vs) k g' room,
        )
        (omega (
          arith,
          strays-append (traces_from d cap b h i) (v ++ traces_from d cap b (place cap h j) k) (places_from cap h' i)
              (places_from cap (place cap h' i) (length vs) ++ places_from cap (place cap h' (i + length vs)) k) front,
          strays-append v (traces_from d cap b (place cap h j) k) (places_from cap (place cap h' i) (length vs))
              (places_from cap (place cap h' (i + length vs)) k) long,
          strays-made vs (places_from cap (place cap h' i) (length vs)),
          strays_stretch h h' i g g' (omega arith),
          strays_stretch (place cap h j) (place cap h' (i + length vs)) k (place-low cap h g j (omega arith))
              (place-low cap h' g' (i + length vs) (omega arith)) (omega arith),
        ))
