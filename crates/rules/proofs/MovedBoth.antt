-- The moved counts of the calls on two queues are true, and so every call's. Assumes nothing.
use mathlib.Core.List.{List, ◌++◌, []}
use mathlib.Core.Logic.{⊎_elim}
use mathlib.Core.Option.{Option, some, none}
use mathlib.Core.Path.{◌≡◌, ◌∙◌, sym, refl}
use Prim.Native.Nat.{ℕ, ◌≤◌, ◌-◌, ◌<◌, ◌+◌, min}
use native.Mathlib.Omega.{arith}
use borrow.Author.Tests.{ne_eqb}
use lib.ListN.{length, drop, drop_of_length-le, take, length-drop}
use Rattle.rules.proofs.Fit.{Fit, fit_shut}
use Rattle.rules.proofs.Held.{length-held}
use Rattle.rules.proofs.Traces.{strays_crossed, length_traces, origin_at, length_places, places_add, strays-append, traces_none, strays_none, traces_drop, traces_take}
use Rattle.rules.proofs.Moved.{same-moved, take-moved, drop-moved, take_most, drop_most}
use Rattle.rules.proofs.MovedAll.{stands_still, change_counted, drain_counted}
use Rattle.rules.proofs.Pairs.{append_ok, split_ok}
use Rattle.rules.proofs.Places.{place_good}
use Rattle.rules.proofs.Refusals.{Good}
use Rattle.rules.proofs.Regions.{move_ok, portion_ok, portion-long}
use Rattle.rules.proofs.Slots.{length-lay}
use Rattle.rules.proofs.Taken.{by_taken}
use Rattle.rules.proofs.Choices.{lt_or_ge, when-accepted}
use Rattle.rules.specs.Asks.{Sight}
use Rattle.rules.specs.Ends.{clear, truncate}
use Rattle.rules.specs.Joins.{extend_with}
use Rattle.rules.specs.Makes.{made_with}
use Rattle.rules.specs.Moves.{Traced, elsewhere, slot_of, strays, traces_from, Traces, places_of, traces_both, standing, traces_of, queue_after, places_from, pair_after, both_after, taken_after}
use Rattle.rules.specs.Outcome.{shut, accepted, rec_after}
use Rattle.rules.specs.Pairs.{on_appending, appended, crossing, on_splitting, splitted, PairOutcome, do_append, do_split}
use Rattle.rules.specs.Places.{place}
use Rattle.rules.specs.Records.{Rec, held, stepped, new_rec, with_mark}
use Rattle.rules.specs.Regions.{on_moving, moved_whole, do_move, on_portion, pass_on, ported, do_portion}
use Rattle.rules.specs.Sequences.{Side, side_a, side_b, CallStep, Queue, still_step, QueueCall, queue_step, queue_of, one_step, look_step, changing, asking, both_step, made_or, stands, PairCall, pair_step, appending, splitting, moving, porting, comparing, Call, first_step, taken_step}
use Rattle.rules.specs.Choices.{unless, whether}

-- every element that stood in the other queue has moved
module _ (d d' : Side) (cross : (s p : ℕ) → elsewhere d (slot_of d' s) p ≡ 1) where
  crossed : (c : ℕ) (b : List ℕ) (h n : ℕ) (ps : List ℕ) → h ≤ c - 1 → n ≤ c → length ps ≡ n
      → strays d (traces_from d' c b h n) ps ≡ n
  crossed c b h n ps good fits e =
      strays_crossed d (traces_from d' c b h n) ps (length_traces d' c b h n ∙ sym e)
      (λ i x lt p. let lt' : i < n = omega (arith, length_traces d' c b h n) in rw
      (origin_at d' c b h n i x (omega arith) fits lt') (cross _ p))
      ∙ length_traces d' c b h n

  -- those of the queue stay, and the other's come behind
  joined : (b : List ℕ) (h n : ℕ) (b' : List ℕ) (h' n' : ℕ) → h ≤ length b - 1 → n + n' ≤ length b → h' ≤ length b' - 1
      → n' ≤ length b'
      → n' ≡ strays d (traces_from d (length b) b h n ++ traces_from d' (length b') b' h' n')
      (places_from (length b) h (n + n'))
  joined b h n b' h' n' good fits good' fits' =
      let c = length b in
      let w = traces_from d c b h n in
      let w' = traces_from d' (length b') b' h' n' in
      ⊎_elim
      (λ lt. let in_ring : h < c = omega arith in
      let front : length w ≡ length (places_from c h n) = length_traces d c b h n ∙ sym (length_places c h n) in
      rw (places_add c h n n' in_ring (omega arith)) (omega (
        arith,
        strays-append d w w' (places_from c h n) (places_from c (place c h n) n') front,
        same-moved d b h n good (omega arith),
        crossed (length b') b' h' n' (places_from c (place c h n) n') good' fits' (length_places c (place c h n) n'),
      )))
      (λ ge. let z : n ≡ 0 = omega arith in
      let z' : n' ≡ 0 = omega arith in
      rw (z, z', traces_none, traces_none, strays_none))
      (lt_or_ge 0 (n + n'))

b_in_a : (s p : ℕ) → elsewhere side_a (slot_of side_b s) p ≡ 1
unfolding elsewhere
b_in_a s p = refl

a_in_b : (s p : ℕ) → elsewhere side_b (slot_of side_a s) p ≡ 1
unfolding elsewhere
a_in_b s p = refl

-- what a step's moved count should be, where m stands after it
abbrev pub CountedBoth : Traces → CallStep → Type 0
CountedBoth m o =
    o.moved ≡ strays side_a m.ours (places_of (length o.queues.a.slots) o.queues.a.state)
    + strays side_b m.theirs (places_of (length o.queues.b.slots) o.queues.b.state)

-- what stands in a queue before a call, traced
abbrev before : Side → Queue → List Traced
before d q = standing q.state (traces_of d q.slots q.state)

-- passed over, or a look: none moves
still_counted : (p q : Queue) (n : ℕ) (s : Option Sight) → Fit p.slots p.state → Fit q.slots q.state
    → CountedBoth (traces_both (before side_a p) (before side_b q)) (still_step p q n s)
unfolding still_step
still_counted p q n s f f' = omega (arith, stands_still side_a p.slots f, stands_still side_b q.slots f')

-- each call on a queue
queue_counted : (b : List ℕ) (r : Rec) (q : Queue) → Good (length b) r → Fit q.slots q.state → (k : QueueCall)
    → (queue_step (queue_of b (shut r)) q r k).refused ≡ 0
    → CountedBoth (traces_both (queue_after k (traces_of side_a b (shut r))) (before side_b q))
    (queue_step (queue_of b (shut r)) q r k)
unfolding queue_step queue_after one_step look_step standing
queue_counted b r q g f' (changing k) z =
    omega (arith, change_counted side_a b r g k z, stands_still side_b q.slots f')
queue_counted b r q g f' (asking a) z = still_counted (queue_of b (shut r)) q _ _ (fit_shut g) f'

-- the later ones of ours have gone to the other queue
parted : (b : List ℕ) (h n i c' : ℕ) → h ≤ length b - 1 → n ≤ length b → i ≤ n
    → n - i ≡ strays side_b (drop i (traces_from side_a (length b) b h n)) (places_from c' 0 (n - i))
parted b h n i c' good fits le =
    let c = length b in
    ⊎_elim
    (λ lt. rw (traces_drop side_a c b h (omega arith) i n le fits)
    (sym (crossed side_b side_a a_in_b c b (place c h i) (n - i) (places_from c' 0 (n - i))
    (place_good c h good i (omega arith)) (omega arith) (length_places c' 0 (n - i)))))
    (λ ge. let z : n - i ≡ 0 = omega arith in
    rw (
      z,
      drop_of_length-le (traces_from side_a c b h n) {i = i} (omega (arith, length_traces side_a c b h n)),
      strays_none,
    ))
    (lt_or_ge i n)

-- the first k of ours, with their traces
first_traces : (b : List ℕ) (h n k : ℕ) → h ≤ length b - 1 → n ≤ length b → k ≤ n
    → take k (traces_from side_a (length b) b h n) ≡ traces_from side_a (length b) b h k
first_traces b h n k good fits le =
    ⊎_elim
    (λ lt. traces_take side_a (length b) b h (omega arith) k n le fits)
    (λ ge. let z : k ≡ 0 = omega arith in rw (z, traces_none))
    (lt_or_ge 0 n)

-- those behind the first k of ours stay where they stand; where there are none, wherever head goes
passed_moved : (b : List ℕ) (h n k : ℕ) (l : List ℕ) → h ≤ length b - 1 → n ≤ length b → k ≤ n
    → 0 ≡ strays side_a (drop k (traces_from side_a (length b) b h n))
    (places_from (length b) ((pass_on k).head (length b) h n l) (n - k))
unfolding pass_on whether
passed_moved b h n k l good fits le =
    ⊎_elim
    (λ lt. rw (ne_eqb (n - k) 0 (λ e. omega arith)) (drop-moved side_a b h n good fits k le))
    (λ ge. rw (
      drop_of_length-le (traces_from side_a (length b) b h n) {i = k}
          (omega (arith, length_traces side_a (length b) b h n)),
      strays_none,
    ))
    (lt_or_ge k n)

step-refused : (b : List ℕ) (r : Rec) (b' : List ℕ) (r' : Rec) (n : ℕ) (x : Option Rec) (gone : List ℕ)
    → (both_step (shut r') (record {
      answer = record { refused = n; moved = 0; rec = r; other = x };
      slots = b;
      slots' = b';
    }) gone).refused ≡ n
unfolding both_step
step-refused b r b' r' n x gone = refl

module _ (b : List ℕ) (r : Rec) (b' : List ℕ) (r' : Rec) where
  append_counted : on_appending (length b) r (length b') r' ≡ 0
      → CountedBoth (traces_both (traces_of side_a b (shut r) ++ traces_of side_b b' (shut r')) [])
      (both_step (shut r') (appended b r b' r') [])
  unfolding both_step appended crossing accepted rec_after extend_with clear stepped made_or traces_of places_of
  append_counted z =
      let o = append_ok (length b) r (length b') r' z in
      rw (length-lay, length-held, strays_none)
      (omega (
        arith,
        joined side_a side_b b_in_a b r.head r.len b' r'.head r'.len o.0.placed o.2 o.1.placed
            o.1.fits,
      ))

  split_counted : (i : ℕ) → on_splitting (length b) r (length b') i ≡ 0
      → CountedBoth (traces_both (take i (traces_of side_a b (shut r))) (drop i (traces_of side_a b (shut r))))
      (both_step (shut r') (splitted b r b' i) (stands b' (shut r')))
  unfolding both_step splitted crossing accepted rec_after truncate made_with stepped new_rec made_or traces_of places_of
  split_counted i z =
      let o = split_ok (length b) r (length b') i z in
      let g = o.0 in
      let all : min i r.len ≡ i = omega (arith, o.1) in
      rw (length-lay, length-lay, length-drop, length-held, all) (omega (
        arith,
        take-moved side_a b r.head r.len g.placed g.fits i o.1,
        parted b r.head r.len i (length b') g.placed g.fits o.1,
      ))

  -- all of ours have gone to the bare region
  move_counted : on_moving (length b) r (length b') ≡ 0
      → CountedBoth (traces_both [] (traces_of side_a b (shut r)))
      (both_step (shut r') (moved_whole b r b') (stands b' (shut r')))
  unfolding both_step moved_whole crossing accepted rec_after clear made_with stepped new_rec made_or traces_of places_of
  move_counted z =
      let o = move_ok (length b) r (length b') z in
      rw (length-lay, length-lay, length-held, strays_none) (omega (
        arith,
        crossed side_b side_a a_in_b (length b) b r.head r.len (places_from (length b') 0 r.len)
            o.0.placed o.0.fits (length_places (length b') 0 r.len),
      ))

  -- the first k have gone behind those of the new queue, and the others stay
  portion_counted : (n : ℕ) → on_portion (length b) r (length b') r' n ≡ 0
      → CountedBoth (traces_both (drop n (traces_of side_a b (shut r)))
      (traces_of side_b b' (shut r') ++ take n (traces_of side_a b (shut r))))
      (both_step (shut r') (ported b r b' r' n) [])
  unfolding both_step ported crossing accepted rec_after pass_on extend_with stepped with_mark made_or traces_of places_of
  portion_counted n z =
      let o = portion_ok (length b) r (length b') r' n z in
      let k = min n r.len in
      let w = traces_from side_a (length b) b r.head r.len in
      let long = length_traces side_a (length b) b r.head r.len in
      rw (
        length-lay,
        length-lay,
        portion-long b r n,
        take_most w r.len long n,
        drop_most w r.len long n,
        first_traces b r.head r.len k o.0.placed o.0.fits (omega arith),
      )
      (omega (
        arith,
        passed_moved b r.head r.len k (held b r) o.0.placed o.0.fits (omega arith),
        joined side_b side_a a_in_b b' r'.head r'.len b r.head k o.1.placed o.2 o.0.placed
            (omega (arith, o.0.fits)),
      ))

  -- an accepted call, of the two outcomes that it may have
  both_counted : (w : Traces) (n : ℕ) (x : Option Rec) (m : PairOutcome) (gone : List ℕ)
      → let no : PairOutcome = record {
        answer = record { refused = n; moved = 0; rec = r; other = x };
        slots = b;
        slots' = b';
      } in
      (both_step (shut r') (unless n m no) gone).refused ≡ 0 → (n ≡ 0 → CountedBoth w (both_step (shut r') m gone))
      → CountedBoth w (both_step (shut r') (unless n m no) gone)
  both_counted w n x m gone z f =
      when-accepted n m _ (λ (y : PairOutcome). (both_step (shut r') y gone).refused) (step-refused b r b' r' n x gone) z
      (λ (y : PairOutcome). CountedBoth w (both_step (shut r') y gone)) f

  -- each call on both
  pair_counted : Good (length b) r → Good (length b') r' → (k : PairCall)
      → (pair_step (queue_of b (shut r)) (queue_of b' (shut r')) r r' k).refused ≡ 0
      → CountedBoth (pair_after k (traces_of side_a b (shut r)) (traces_of side_b b' (shut r')))
      (pair_step (queue_of b (shut r)) (queue_of b' (shut r')) r r' k)
  unfolding pair_step pair_after do_append do_split do_move do_portion look_step standing
  pair_counted g g' appending z =
      both_counted _ (on_appending (length b) r (length b') r') (some r') (appended b r b' r') [] z append_counted
  pair_counted g g' (splitting i) z =
      both_counted _ (on_splitting (length b) r (length b') i) none (splitted b r b' i) (stands b' (shut r')) z
      (split_counted i)
  pair_counted g g' moving z =
      both_counted _ (on_moving (length b) r (length b')) none (moved_whole b r b') (stands b' (shut r')) z move_counted
  pair_counted g g' (porting n) z =
      both_counted _ (on_portion (length b) r (length b') r' n) (some r') (ported b r b' r' n) [] z (portion_counted n)
  pair_counted g g' (comparing a) z =
      still_counted (queue_of b (shut r)) (queue_of b' (shut r')) _ _ (fit_shut g) (fit_shut g')

-- each call on the first queue, of its drain, and on both
pub first_counted : (p q : Queue) → Fit p.slots p.state → Fit q.slots q.state → (k : Call)
    → (first_step p q k).refused ≡ 0
    → let m = both_after p.state q.state k (traces_of side_a p.slots p.state)
    (traces_of side_b q.slots q.state) in
    CountedBoth m (first_step p q k)
unfolding first_step taken_step both_after taken_after one_step
first_counted p q f f' k =
    by_taken f f' k
    (λ h h' t. let o = taken_step (queue_of p.slots h) (queue_of q.slots h') t in
    o.refused ≡ 0 → CountedBoth (taken_after h h' (traces_of side_a p.slots h) (traces_of side_b q.slots h') t) o)
    (λ z. still_counted p q 0 none f f')
    (λ r g c z. queue_counted p.slots r q g f' c z)
    (λ d few g c z. omega (arith, drain_counted side_a p.slots d few g c z, stands_still side_b q.slots f'))
    (λ r r' g g' c z. pair_counted p.slots r q.slots r' g g' c z)
