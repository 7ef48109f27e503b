-- The moved counts of the calls that put an element in another's place are true. Assumes nothing.
use mathlib.Core.Bool.{not}
use mathlib.Core.List.{List}
use mathlib.Core.Logic.{◌≢◌}
use mathlib.Core.Path.{◌≡◌, ◌∙◌, refl, sym, ap}
use Prim.Native.Nat.{ℕ, ◌<◌, ◌≤◌, ◌+◌, ◌-◌}
use native.Mathlib.Omega.{arith}
use borrow.Author.Tests.{eq-eqb, ne_eqb}
use lib.Dec.{eqb, ltb, ltb→lt, eqb→eq}
use lib.ListN.{length, get_or, set, length-set, drop, take}
use lib.Seq.{drop-set-add, take-set-lt, set-get_or, take-set-le}
use Rattle.rules.proofs.Count.{set_copy}
use Rattle.rules.proofs.Traces.{origin_at, own_slot, length_traces, length_places, place_at_lem, strays-set, traces_drop, traces_take}
use Rattle.rules.proofs.Moved.{same-moved, MovedTrue, drop-moved, take-moved}
use Rattle.rules.proofs.Places.{places_apart, place-low, place-place}
use Rattle.rules.proofs.Refusals.{change_ok}
use Rattle.rules.proofs.Choices.{passed, by_test, neqb→ne, by_test₄, by-test₃}
use Rattle.rules.specs.Count.{one_if}
use Rattle.rules.specs.Ends.{exchange, swap_remove_front, swap_remove_back}
use Rattle.rules.specs.Moves.{Traced, traced, elsewhere, traces_from, strays, places_from}
use Rattle.rules.specs.Outcome.{refusal, rec_after}
use Rattle.rules.specs.Places.{place}
use Rattle.rules.specs.Records.{stepped}
use Rattle.rules.specs.Sequences.{Side}

abbrev zeroth : Traced
zeroth = traced.brought 0

module _ (d : Side) (b : List ℕ) (h n : ℕ) (in_ring : h < length b) (fits : n ≤ length b) where
  -- the element of position j, in the slot of position i
  put_at : (j i : ℕ) → j < n → elsewhere d (get_or (traces_from d (length b) b h n) j zeroth).origin (place (length b) h i)
      ≡ one_if (not (eqb (place (length b) h j) (place (length b) h i)))
  put_at j i lt = rw (origin_at d (length b) b h n j zeroth in_ring fits lt) (own_slot d _ _)

  put_own : (i : ℕ) → i < n → elsewhere d (get_or (traces_from d (length b) b h n) i zeroth).origin (place (length b) h i)
      ≡ 0
  unfolding one_if
  put_own i lt = put_at i i lt ∙ rw (eq-eqb (place (length b) h i) (place (length b) h i) refl)

  put_other : (j i : ℕ) → j < n → i < n → j ≢ i
      → elsewhere d (get_or (traces_from d (length b) b h n) j zeroth).origin (place (length b) h i) ≡ 1
  unfolding one_if
  put_other j i lt lt' ne =
      put_at j i lt ∙ rw (ne_eqb (place (length b) h j) (place (length b) h i)
      (λ e. places_apart (length b) h in_ring j i (omega arith) (omega arith) ne e))

  set_at : (i : ℕ) (x : Traced) → i < n
      → strays d (set (traces_from d (length b) b h n) i x) (places_from (length b) h n)
      ≡ elsewhere d x.origin (place (length b) h i)
  set_at i x lt =
      let long : length (traces_from d (length b) b h n) ≡ length (places_from (length b) h n) =
      length_traces d (length b) b h n ∙ sym (length_places (length b) h n) in
      let at_i = place_at_lem (length b) h n i in_ring fits lt in
      omega (
        arith,
        rw at_i at (strays-set d (traces_from d (length b) b h n) (places_from (length b) h n) i x zeroth
            (rw length_traces lt) long),
        put_own i lt,
        same-moved d b h n (omega arith) fits,
      )

  -- two elements are exchanged
  both_set : (i j : ℕ) → i < n → j < n
      → strays d (set (set (traces_from d (length b) b h n) i (get_or (traces_from d (length b) b h n) j zeroth)) j
      (get_or (traces_from d (length b) b h n) i zeroth)) (places_from (length b) h n)
      ≡ elsewhere d (get_or (traces_from d (length b) b h n) j zeroth).origin (place (length b) h i)
      + elsewhere d (get_or (traces_from d (length b) b h n) i zeroth).origin (place (length b) h j)
  both_set i j lt lt' =
      let w = traces_from d (length b) b h n in
      let l = set w i (get_or w j zeroth) in
      let long : length l ≡ length (places_from (length b) h n) =
      rw length-set (length_traces d (length b) b h n ∙ sym (length_places (length b) h n)) in
      let in_l : j < length l = rw (length-set, length_traces) lt' in
      omega (
        arith,
        rw (set_copy w zeroth i j, place_at_lem (length b) h n j in_ring fits lt') at
            (strays-set d l (places_from (length b) h n) j (get_or w i zeroth) zeroth in_l long),
        put_own j lt',
        set_at i (get_or w j zeroth) lt,
      )

pub exchange-moved : (i j : ℕ) → MovedTrue (exchange i j)
unfolding refusal rec_after stepped exchange
exchange-moved i j d b r e =
    let q = change_ok (length b) r _ e in
    let p = passed (ltb i r.len) 2 _ q.1 in
    let o = passed (ltb j r.len) 2 _ p.1 in
    let lt = ltb→lt i r.len p.0 in
    let lt' = ltb→lt j r.len o.0 in
    let g = q.0 in
    let in_ring : r.head < length b = omega arith in
    let w = traces_from d (length b) b r.head r.len in
    by_test (eqb i j) (λ m. m ≡ strays d (set (set w i (get_or w j zeroth)) j (get_or w i zeroth))
    (places_from (length b) r.head r.len))
    (λ t. let same = eqb→eq i j t in
    sym (both_set d b r.head r.len in_ring g.fits i j lt lt'
    ∙ rw same (omega (arith, put_own d b r.head r.len in_ring g.fits j lt'))))
    (λ t. let ne = neqb→ne i j t in
    sym (both_set d b r.head r.len in_ring g.fits i j lt lt'
    ∙ omega (
      arith,
      put_other d b r.head r.len in_ring g.fits j i lt' lt (λ z. ne (sym z)),
      put_other d b r.head r.len in_ring g.fits i j lt lt' ne,
    )))

-- ---- the first element, or the last, in the place of the removed one

module _ (d : Side) (b : List ℕ) (h n : ℕ) (in_ring : h < length b) (fits : n ≤ length b) where
  front_put : (i : ℕ) → 0 < i → i < n
      → 1 ≡ strays d (drop 1 (set (traces_from d (length b) b h n) i (get_or (traces_from d (length b) b h n) 0 zeroth)))
      (places_from (length b) (place (length b) h 1) (n - 1))
  front_put i pos lt =
      let w = traces_from d (length b) b h n in
      let c = length b in
      let h' = place c h 1 in
      let in' = place-low c h in_ring 1 (omega arith) in
      let down : drop 1 (set w i (get_or w 0 zeroth)) ≡ set (traces_from d c b h' (n - 1)) (i - 1) (get_or w 0 zeroth) =
      ap (λ (k : ℕ). drop 1 (set w k (get_or w 0 zeroth))) (omega arith) ∙ drop-set-add 1 w (i - 1) (get_or w 0 zeroth)
      ∙ ap (λ (l : List Traced). set l (i - 1) (get_or w 0 zeroth)) (traces_drop d c b h in_ring 1 n (omega arith) fits) in
      let there : place c h' (i - 1) ≡ place c h i =
      place-place c h in_ring 1 (i - 1) (omega arith) ∙ ap (place c h) (omega arith) in
      rw down (omega (
        arith,
        rw there at (set_at d b h' (n - 1) in' (omega arith) (i - 1) (get_or w 0 zeroth) (omega arith)),
        put_other d b h n in_ring fits 0 i (omega arith) lt (λ z. omega arith),
      ))

  back_put : (i : ℕ) → i + 1 < n
      → 1 ≡ strays d (take (n - 1) (set (traces_from d (length b) b h n) i
      (get_or (traces_from d (length b) b h n) (n - 1) zeroth))) (places_from (length b) h (n - 1))
  back_put i lt =
      let w = traces_from d (length b) b h n in
      let c = length b in
      let x = get_or w (n - 1) zeroth in
      let down : take (n - 1) (set w i x) ≡ set (traces_from d c b h (n - 1)) i x =
      take-set-lt (n - 1) w i x (omega arith)
      ∙ ap (λ (l : List Traced). set l i x) (traces_take d c b h in_ring (n - 1) n (omega arith) fits) in
      rw down (omega (
        arith,
        set_at d b h (n - 1) in_ring (omega arith) i x (omega arith),
        put_other d b h n in_ring fits (n - 1) i (omega arith) (omega arith) (λ z. omega arith),
      ))

pub swap_remove_front-moved : (i : ℕ) → MovedTrue (swap_remove_front i)
unfolding refusal rec_after stepped swap_remove_front
swap_remove_front-moved i d b r e =
    let q = change_ok (length b) r _ e in
    let g = q.0 in
    let w = traces_from d (length b) b r.head r.len in
    rw (length_traces d (length b) b r.head r.len)
    (by_test₄ (ltb i r.len) (λ m l h' n'. m ≡ strays d l (places_from (length b) h' n'))
    (λ t. let lt = ltb→lt i r.len t in
    by_test (eqb i 0) (λ m. m ≡ strays d (drop 1 (set w i (get_or w 0 zeroth)))
    (places_from (length b) (place (length b) r.head 1) (r.len - 1)))
    (λ u. let z = eqb→eq i 0 u in rw (z, set-get_or w 0 zeroth)
    (drop-moved d b r.head r.len g.placed g.fits 1 (omega arith)))
    (λ u. front_put d b r.head r.len (omega arith) g.fits i (omega (arith, neqb→ne i 0 u)) lt))
    (λ t. same-moved d b r.head r.len g.placed g.fits))

pub swap_remove_back-moved : (i : ℕ) → MovedTrue (swap_remove_back i)
unfolding refusal rec_after stepped swap_remove_back
swap_remove_back-moved i d b r e =
    let q = change_ok (length b) r _ e in
    let g = q.0 in
    let w = traces_from d (length b) b r.head r.len in
    rw (length_traces d (length b) b r.head r.len)
    (by-test₃ (ltb i r.len) (λ m l n'. m ≡ strays d l (places_from (length b) r.head n'))
    (λ t. let lt = ltb→lt i r.len t in
    by_test (eqb (i + 1) r.len)
    (λ m. m ≡ strays d (take (r.len - 1) (set w i (get_or w (r.len - 1) zeroth)))
    (places_from (length b) r.head (r.len - 1)))
    (λ u. let z = eqb→eq (i + 1) r.len u in
    rw (take-set-le (r.len - 1) w i (get_or w (r.len - 1) zeroth) (omega arith))
    (take-moved d b r.head r.len g.placed g.fits (r.len - 1) (omega arith)))
    (λ u. back_put d b r.head r.len (omega arith) g.fits i (omega (arith, neqb→ne (i + 1) r.len u))))
    (λ t. same-moved d b r.head r.len g.placed g.fits))
