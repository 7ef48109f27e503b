-- What closing a drain does. Assumes nothing.
use mathlib.Core.List.{List, ◌++◌, []}
use mathlib.Core.Option.{none}
use mathlib.Core.Path.{◌≡◌, refl, ◌∙◌, sym, ap}
use Prim.Native.Nat.{ℕ, ◌+◌, min}
use native.Mathlib.Nat.{add-zero}
use native.Mathlib.Omega.{arith}
use lib.Dec.{eqb, ltb, ltb→lt, nltb→le}
use lib.ListN.{length, take, drop}
use Rattle.holes.proofs.Closes.{lay-over, hole_closed, joined_head, joined_moved}
use Rattle.holes.specs.Holes.{closed_hole}
use Rattle.std.specs.Prelude.{Result, IsErrAnd}
use Rattle.queue.proofs.Checks.{same_refusal}
use Rattle.queue.proofs.DrainChecks.{drain_refused}
use Rattle.queue.specs.Answers.{number_of}
use Rattle.queue.specs.Drains.{drain_of, of_closed}
use Rattle.rules.proofs.Drains.{drain_ok, kept_length}
use Rattle.rules.proofs.Slots.{length_list_of, lay_none}
use Rattle.rules.proofs.Choices.{by_test}
use Rattle.rules.proofs.Told.{accepted_as}
use Rattle.rules.specs.Drains.{Drain, on_drain, closed_head, closed_moved, kept_list, as_opened, close_drain}
use Rattle.rules.specs.Outcome.{shut, told, do_close}
use Rattle.rules.specs.Places.{place}
use Rattle.rules.specs.Records.{Rec, held, stepped}
use Rattle.rules.specs.Slots.{lay, list_of}
use Rattle.rules.specs.Choices.{whether, unless}
use Rattle.queue.specs.declared.refusals.Refusal.{Refusal}
use Rattle.queue.specs.declared.answers.Change.{Change}
use Rattle.queue.specs.declared.records.Deque.{Deque}
use Rattle.queue.specs.declared.records.Drain.{Drain as Draining}

-- the smaller of two
smaller : (s t : ℕ) → whether (ltb s t) s t ≡ min s t
smaller s t = by_test (ltb s t) (λ m. m ≡ min s t) (λ lt. omega (arith, ltb→lt s t lt))
    (λ ge. omega (arith, nltb→le s t ge))

-- refused by the tests: the drain stays open, and nothing is written
pub close_refused : (b : List ℕ) (d : Draining) (a : Result (Change Deque) Refusal) (x : Refusal)
    → IsErrAnd a (λ y. y ≡ x) → number_of x ≡ on_drain (length b) (drain_of d)
    → (of_closed d a, b) ≡ told (do_close b (drain_of d))
unfolding do_close
close_refused b d a x h e = rw (same_refusal a x h) (drain_refused b (drain_of d) _ x e)

-- an accepted closing: what is kept is laid from the new head
pub drain_closed : (b b' : List ℕ) (d : Drain) (h' m : ℕ) (r : Rec) → on_drain (length b) d ≡ 0
    → (h', m, b') ≡ closed_hole b d.head d.start 0 d.drained d.tail
    → r ≡ stepped (as_opened d) (whether (eqb (d.start + d.tail) 0) 0 h') (d.start + d.tail)
    → (record { refused = 0; moved = m; state = shut r; handed = none }, b') ≡ told (do_close b d)
unfolding do_close close_drain closed_head closed_moved joined_head joined_moved unless kept_list held
drain_closed b b' d h' m r first closed made =
    let g = (drain_ok (length b) d first).1 in
    let c = hole_closed b d.head d.start 0 d.drained d.tail g.whole.placed
    (omega (arith, g.whole.fits)) b' h' m closed in
    let whole = list_of b d.head (d.start + d.drained + d.tail) in
    let kept = take d.start whole ++ drop (d.start + d.drained) whole in
    let many : length kept ≡ d.start + d.tail = kept_length whole d (length_list_of b d.head _) in
    let at_slots : b' ≡ lay b h' kept = sym (lay_none b' _) ∙ (rw (add-zero d.drained) at (c.room.laid [] refl)) in
    let at_head : h' ≡ whether (eqb d.drained 0) d.head
    (whether (ltb d.start d.tail) (place (length b) d.head d.drained) d.head) =
    rw (add-zero d.start) at c.head in
    let at_moved : m ≡ closed_moved d =
    (rw (add-zero d.start) at c.moved) ∙ ap (whether (eqb d.drained 0) 0) (smaller d.start d.tail) in
    rw first
    (accepted_as b (as_opened d) (close_drain d) m _ _ r none b' made
    (ap (whether (eqb (d.start + d.tail) 0) 0) at_head) refl at_moved refl
    (at_slots ∙ sym (lay-over b h' _ kept many)))
