-- The moved count of every call that can change one queue is true, from any that a sequence leaves. Assumes nothing.
use mathlib.Core.List.{List, ◌++◌, map, []}
use mathlib.Core.Path.{◌≡◌, ◌∙◌, sym, ap, refl}
use Prim.Native.Nat.{ℕ, ◌≤◌, ◌-◌, ◌+◌, zero, suc}
use native.Mathlib.Nat.{suc-ne-zero}
use native.Mathlib.Omega.{arith}
use lib.ListN.{length, take, length-take, drop, length-drop, take-append-drop}
use lib.Seq.{drop-drop}
use Rattle.rules.proofs.Drains.{opening_range, open_same, GoodDrain, front_same, back-same}
use Rattle.rules.proofs.Fit.{Fit, fit_shut, fit_draining}
use Rattle.rules.proofs.Traces.{length_traces, length_places, strays-append, none_taken, none_dropped, strays-made}
use Rattle.rules.proofs.Moved.{MovedTrue, same-moved, MovedAt}
use Rattle.rules.proofs.MovedEnds.{push_back-moved, push_front-moved, pop_front-moved, pop_back-moved, pop_front_if-moved, pop_back_if-moved, truncate-moved, truncate_front-moved, clear-moved}
use Rattle.rules.proofs.MovedMiddle.{extend_moved, prepend-moved, extend_front-moved, resize-moved, insert_moved, remove_moved}
use Rattle.rules.proofs.MovedRetain.{retain-moved}
use Rattle.rules.proofs.MovedSplice.{splice-moved, close-moved}
use Rattle.rules.proofs.MovedSwaps.{exchange-moved, swap_remove_front-moved, swap_remove_back-moved}
use Rattle.rules.proofs.Refusals.{Good}
use Rattle.rules.proofs.Slots.{length-lay}
use Rattle.rules.proofs.Choices.{when-accepted}
use Rattle.rules.specs.Calls.{Op, rule, push_back!, push_front!, pop_front!, pop_back!, pop_front_if!, pop_back_if!, truncate!, truncate_front!, clear!, extend!, prepend!, extend_front!, resize!, insert!, remove!, swap!, swap_remove_front!, swap_remove_back!, retain!, splice! }
use Rattle.rules.specs.Drains.{Drain, during, handable, spread, opened, from_front, from_back, as_opened, close_drain, on_drain}
use Rattle.rules.specs.Images.{elements_in, laid_out, how_many}
use Rattle.rules.specs.Makes.{made_with, none_made, fresh, read_image}
use Rattle.rules.specs.Moves.{strays, traces_from, places_from, standing, traces_of, places_of, Traced, traced, change_after, drain_after}
use Rattle.rules.specs.Outcome.{State, Outcome, accepted, shut, unchanged, draining, do_rule, refusal, do_open, hands_over, next_of, next_back_of, do_next, do_next_back, do_close}
use Rattle.rules.specs.Records.{Rec}
use Rattle.rules.specs.Refusals.{on_taking, on_slots, on_layout, room, most_slots}
use Rattle.rules.specs.Rule.{Rule}
use Rattle.rules.specs.Sequences.{Side, do_make, QueueChange, op, freshly, reading, opening, do_on_queue, DrainCall, do_on_drain, next, next_back, close}
use Rattle.rules.specs.Choices.{unless}

pub moved_true : (o : Op) → MovedTrue (rule o)
unfolding rule
moved_true (push_back! v) = push_back-moved v
moved_true (push_front! v) = push_front-moved v
moved_true pop_front! = pop_front-moved
moved_true pop_back! = pop_back-moved
moved_true (pop_front_if! t) = pop_front_if-moved t
moved_true (pop_back_if! t) = pop_back_if-moved t
moved_true (truncate! m) = truncate-moved m
moved_true (truncate_front! m) = truncate_front-moved m
moved_true clear! = clear-moved
moved_true (extend! vs) = extend_moved vs
moved_true (prepend! vs) = prepend-moved vs
moved_true (extend_front! vs) = extend_front-moved vs
moved_true (resize! m v) = resize-moved m v
moved_true (insert! i v) = insert_moved i v
moved_true (remove! i) = remove_moved i
moved_true (swap! i j) = exchange-moved i j
moved_true (swap_remove_front! i) = swap_remove_front-moved i
moved_true (swap_remove_back! i) = swap_remove_back-moved i
moved_true (retain! t) = retain-moved t
moved_true (splice! s e vs) = splice-moved s e vs

-- ---- queues as they are: none stands elsewhere

module _ (s : Side) (b : List ℕ) where
  -- while a drain is open, in any of its states
  during-stands : (h n : ℕ) → h ≤ length b - 1 → n ≤ length b → (d : Drain)
      → strays s (during (traces_from s (length b) b h n) d) (during (places_from (length b) h n) d) ≡ 0
  unfolding during handable
  during-stands h n good fits d =
      let w = traces_from s (length b) b h n in
      let ps = places_from (length b) h n in
      let long : length w ≡ length ps = length_traces s (length b) b h n ∙ sym (length_places (length b) h n) in
      let none = sym (same-moved s b h n good fits) in
      let x = d.start + d.drained in
      let a : length (take d.start w) ≡ length (take d.start ps) = simp length-take (omega arith) in
      let c : length (take d.remaining (drop d.idx w)) ≡ length (take d.remaining (drop d.idx ps)) =
      simp (length-take, length-drop) (omega arith) in
      let e : length (drop d.idx w) ≡ length (drop d.idx ps) = simp length-drop (omega arith) in
      omega (
        arith,
        strays-append s (take d.start w) (take d.remaining (drop d.idx w) ++ drop x w) (take d.start ps)
            (take d.remaining (drop d.idx ps) ++ drop x ps) a,
        strays-append s (take d.remaining (drop d.idx w)) (drop x w) (take d.remaining (drop d.idx ps))
            (drop x ps) c,
        none_taken s d.start w ps long none,
        none_taken s d.remaining (drop d.idx w) (drop d.idx ps) e (none_dropped s d.idx w ps long none),
        none_dropped s x w ps long none,
      )

  pub stands_still : {h : State} → Fit b h → strays s (standing h (traces_of s b h)) (places_of (length b) h) ≡ 0
  unfolding standing traces_of places_of
  stands_still (fit_shut {r = r} g) = sym (same-moved s b r.head r.len g.placed g.fits)
  stands_still (fit_draining {d = d} few g) = during-stands d.head (spread d) g.whole.placed g.whole.fits d

-- ---- a call that can change one queue

-- what an outcome's moved count should be, where w stands after it
abbrev pub Counted : Side → List Traced → Outcome → Type 0
Counted s w o = o.answer.moved ≡ strays s w (places_of (length o.slots) o.answer.state)

-- an accepted call, on the queue with the record r
accepted_counted : (s : Side) (b : List ℕ) (r : Rec) (R : Rule) → MovedAt R s b r
    → Counted s (R.list Traced traced (traces_from s (length b) b r.head r.len)) (accepted b r R)
unfolding accepted places_of
accepted_counted s b r R m = rw length-lay m

-- opening a drain leaves every element where it stands
during_all : (r : Rec) (x e : ℕ) (l : List ℕ) → x ≤ e → e ≤ length l → during l (opened r x e) ≡ l
unfolding during handable opened
during_all r x e l le le' =
    rw (← drop-drop (e - x) x l) (ap (λ (m : List ℕ). take x l ++ m) (take-append-drop (e - x) (drop x l))
    ∙ take-append-drop x l)

opened_counted : (s : Side) (b : List ℕ) (r : Rec) → Good (length b) r → (x e : ℕ) → on_taking (length b) r x e ≡ 0
    → Counted s (traces_of s b (shut r)) (unchanged b (draining (opened r x e)) 0)
unfolding unchanged traces_of places_of opened during
opened_counted s b r g x e z =
    let o = opening_range (length b) r x e z in
    rw (
      ap (λ (k : Rec). k.len) (open_same (length b) r x e z),
      during_all r x e (places_from (length b) r.head r.len) o.0 (rw length_places o.1),
    )
    (same-moved s b r.head r.len g.placed g.fits)

module _ (s : Side) (b : List ℕ) where
  -- nothing was done
  same_counted : {h : State} → Fit b h → Counted s (standing h (traces_of s b h)) (unchanged b h 0)
  unfolding unchanged
  same_counted f = sym (stands_still s b f)

  -- a call that was accepted, of the two outcomes that it may have
  counted : (h : State) (w : List Traced) (n : ℕ) (o : Outcome) → (unless n o (unchanged b h n)).answer.refused ≡ 0
      → (n ≡ 0 → Counted s w o) → Counted s w (unless n o (unchanged b h n))
  unfolding unchanged
  counted h w n o z f = when-accepted n o (unchanged b h n) (λ x. x.answer.refused) refl z (Counted s w) f

  module _ (r : Rec) (g : Good (length b) r) where
    op_counted : (o : Op) → (do_rule b r (rule o)).answer.refused ≡ 0
        → Counted s ((rule o).list Traced traced (traces_of s b (shut r))) (do_rule b r (rule o))
    unfolding do_rule traces_of
    op_counted o z =
        counted (shut r) _ (refusal (length b) r (rule o)) (accepted b r (rule o)) z
        (λ e. accepted_counted s b r (rule o) (moved_true o s b r e))

    opening_counted : (x e : ℕ) → (do_open b r x e).answer.refused ≡ 0
        → Counted s (traces_of s b (shut r)) (do_open b r x e)
    unfolding do_open
    opening_counted x e z =
        counted (shut r) _ (on_taking (length b) r x e) (unchanged b (draining (opened r x e)) 0) z
        (opened_counted s b r g x e)

    -- a record is made over elements from outside: none stood before
    make_counted : (l : List ℕ) (n : ℕ)
        → (do_make b (shut r) (unless n (made_with b l) (none_made b n))).answer.refused ≡ 0
        → Counted s (map traced.brought l) (do_make b (shut r) (unless n (made_with b l) (none_made b n)))
    unfolding do_make none_made made_with unless
    make_counted l zero z = sym (strays-made s l _)
    make_counted l (suc n) z = absurd (suc-ne-zero n z)

    fresh_counted : (do_make b (shut r) (fresh b)).answer.refused ≡ 0 → Counted s [] (do_make b (shut r) (fresh b))
    unfolding fresh
    fresh_counted z = make_counted [] (on_slots (length b) 0) z

    reading_counted : (x : List ℕ) → (do_make b (shut r) (read_image b x)).answer.refused ≡ 0
        → Counted s (map traced.brought (elements_in x)) (do_make b (shut r) (read_image b x))
    unfolding read_image
    reading_counted x z =
        make_counted (elements_in x) (on_slots (length b) (on_layout (laid_out x) (room (length b) (how_many x)))) z

    -- each change of a queue
    pub change_counted : (k : QueueChange) → (do_on_queue b r k).answer.refused ≡ 0
        → Counted s (change_after k (traces_of s b (shut r))) (do_on_queue b r k)
    unfolding do_on_queue change_after
    change_counted (op o) z = op_counted o z
    change_counted freshly z = fresh_counted z
    change_counted (reading x) z = reading_counted x z
    change_counted (opening x e) z = opening_counted x e z

-- what handing over leaves of a drain's record
front_none : (d : Drain) → d.remaining ≡ 0
    → ((from_front d).remaining ≡ 0) × ((from_front d).start ≡ d.start) × ((from_front d).drained ≡ d.drained)
unfolding from_front
front_none d z = (omega arith, refl, refl)

back_none : (d : Drain) → d.remaining ≡ 0
    → ((from_back d).remaining ≡ 0) × ((from_back d).start ≡ d.start) × ((from_back d).drained ≡ d.drained)
unfolding from_back
back_none d z = (omega arith, refl, refl)

module _ (s : Side) (b : List ℕ) (d : Drain) (few : length b ≤ most_slots) (g : GoodDrain (length b) d) where
  -- the drain, now d', in the same list
  handing_counted : (d' : Drain) (v : ℕ) → as_opened d' ≡ as_opened d
      → Counted s (during (traces_of s b (draining d)) d') (hands_over b d' v)
  unfolding hands_over traces_of places_of during handable
  handing_counted d' v same =
      sym (rw (ap (λ (k : Rec). k.len) same, ap (λ (k : Rec). k.head) same)
      (during-stands s b d.head (spread d) g.whole.placed g.whole.fits d'))

  -- where none remains, none can be handed over
  none_remains : (d' : Drain) → d.remaining ≡ 0
      → (d'.remaining ≡ 0) × (d'.start ≡ d.start) × (d'.drained ≡ d.drained)
      → (w : List Traced) → during w d' ≡ during w d
  unfolding during handable
  none_remains d' z same w = rw (z, same.0, same.1, same.2)

  none_counted : (d' : Drain) → d.remaining ≡ 0
      → (d'.remaining ≡ 0) × (d'.start ≡ d.start) × (d'.drained ≡ d.drained)
      → Counted s (during (traces_of s b (draining d)) d') (unchanged b (draining d) 0)
  unfolding standing
  none_counted d' z same = rw (none_remains d' z same (traces_of s b (draining d)))
      (same_counted s b (fit_draining few g))

  next_counted : (n : ℕ) → d.remaining ≡ n → Counted s (during (traces_of s b (draining d)) (from_front d)) (next_of b d n)
  unfolding next_of
  next_counted zero e = none_counted (from_front d) e (front_none d e)
  next_counted (suc n) e = handing_counted (from_front d) _ (front_same d)

  next-back_counted : (n : ℕ) → d.remaining ≡ n
      → Counted s (during (traces_of s b (draining d)) (from_back d)) (next_back_of b d n)
  unfolding next_back_of
  next-back_counted zero e = none_counted (from_back d) e (back_none d e)
  next-back_counted (suc n) e = handing_counted (from_back d) _ (back-same d)

  closed_counted : let R = close_drain d in
      Counted s (R.list Traced traced (traces_of s b (draining d))) (accepted b (as_opened d) R)
  unfolding traces_of
  closed_counted = accepted_counted s b (as_opened d) (close_drain d) (close-moved s b d g)

  -- as the drain's record says
  asked_counted : (w : List Traced) (o : Outcome) → Counted s w o
      → (unless (on_drain (length b) d) o (unchanged b (draining d) (on_drain (length b) d))).answer.refused ≡ 0
      → Counted s w (unless (on_drain (length b) d) o (unchanged b (draining d) (on_drain (length b) d)))
  asked_counted w o c z = counted s b (draining d) w (on_drain (length b) d) o z (λ e. c)

  -- each call of an open drain
  pub drain_counted : (k : DrainCall) → (do_on_drain b d k).answer.refused ≡ 0
      → Counted s (drain_after d k (traces_of s b (draining d))) (do_on_drain b d k)
  unfolding do_on_drain drain_after do_next do_next_back do_close
  drain_counted next z = asked_counted _ _ (next_counted d.remaining refl) z
  drain_counted next_back z = asked_counted _ _ (next-back_counted d.remaining refl) z
  drain_counted close z = asked_counted _ _ closed_counted z
