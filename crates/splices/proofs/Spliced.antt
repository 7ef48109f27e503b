-- What a splice does: one law for each return. Assumes nothing.
use mathlib.Core.List.{List, ◌++◌, map}
use mathlib.Core.Option.{none}
use mathlib.Core.Path.{◌≡◌, ◌∙◌, ap, refl, sym}
use Prim.Native.Nat.{ℕ, ◌+◌, ◌-◌, ◌≤◌, ◌<◌}
use native.Mathlib.Omega.{arith}
use lib.Dec.{eqb}
use lib.ListN.{length, take, drop, length-append, length-take, length-drop}
use Rattle.holes.proofs.Closes.{lay-over}
use Rattle.queue.proofs.RangeChecks.{range_go, range_stop}
use Rattle.queue.proofs.Numbers.{some_number}
use Rattle.std.specs.Prelude.{Result, IsErrAnd}
use Rattle.queue.proofs.Checks.{same_refusal}
use Rattle.queue.specs.Answers.{number_of, rec_of, of_change}
use Rattle.queue.specs.declared.answers.Change.{Change}
use Rattle.queue.specs.declared.records.Deque.{Deque}
use Rattle.rules.proofs.Made.{map-brought}
use Rattle.rules.proofs.Refusals.{no_room, range_ok, some_room}
use Rattle.rules.proofs.Slots.{length_list_of}
use Rattle.rules.proofs.Told.{own-refused, accepts}
use Rattle.rules.specs.Outcome.{shut, told, do_rule}
use Rattle.rules.specs.Places.{place}
use Rattle.rules.specs.Records.{Rec, stepped, held}
use Rattle.rules.specs.Refusals.{on_change, in_range}
use Rattle.rules.specs.Rule.{numbers}
use Rattle.rules.specs.Slots.{lay, list_of}
use Rattle.rules.specs.Splice.{splice}
use Rattle.rules.specs.Choices.{whether}
use Rattle.splices.specs.Rooms.{SpliceMade, spliced_head, spliced_moved}
use Rattle.queue.specs.declared.refusals.Refusal.{Refusal}
use Rattle.queue.specs.declared.refusals.Refusal.TheVariants.{Room}

-- no range of positions: refused at a `?`
pub range_refused : (b : List ℕ) (q : Deque) (s e : ℕ) (vs : List ℕ) (a : Result (Change Deque) Refusal) (x : Refusal)
    → IsErrAnd a (λ y. y ≡ x) → 0 ≡ on_change (length b) (rec_of q) 0 → number_of x ≡ in_range q.len s e 0
    → (of_change q a, b) ≡ told (do_rule b (rec_of q) (splice s e vs))
unfolding splice
range_refused b q s e vs a x h first z =
    rw (same_refusal a x h)
    (own-refused b (rec_of q) (splice s e vs) (number_of x) (some_number x) (sym first)
    (range_stop q.len s e _ (number_of x) (some_number x) (sym z)))

module _ (b : List ℕ) (r : Rec) (s e : ℕ) (vs : List ℕ) (first : 0 ≡ on_change (length b) r 0)
    (ranged : 0 ≡ in_range r.len s e 0) where
  -- more elements than slots
  pub splice_full : length b < s + length vs + (r.len - e)
      → (record { refused = number_of Room; moved = 0; state = shut r; handed = none }, b)
      ≡ told (do_rule b r (splice s e vs))
  unfolding splice number_of
  splice_full lt =
      own-refused b r (splice s e vs) 4 (λ z. omega arith) (sym first)
      (range_go r.len s e _ (sym ranged) ∙ no_room _ _ lt)

  -- the room is made, and the values are laid into it
  pub spliced : (b' b'' : List ℕ) (h' h'' m : ℕ) (r' : Rec) → s + length vs + (r.len - e) ≤ length b
      → SpliceMade b b' r.head s (e - s) (length vs) (r.len - e) h' m → b'' ≡ lay b' (place (length b') h' s) vs
      → h'' ≡ whether (eqb (s + length vs + (r.len - e)) 0) 0 h' → r' ≡ stepped r h'' (s + length vs + (r.len - e))
      → (record { refused = 0; moved = m; state = shut r'; handed = none }, b'') ≡ told (do_rule b r (splice s e vs))
  unfolding splice spliced_head spliced_moved held
  spliced b' b'' h' h'' m r' fits c laid over made =
      let n = r.len in
      let k = range_ok n s e 0 (sym ranged) in
      let d = e - s in
      let whole : s + d + (n - e) ≡ n = omega arith in
      let to_end : s + d ≡ e = omega arith in
      let l = list_of b r.head n in
      let new : List ℕ = take s l ++ (vs ++ drop e l) in
      let many : length new ≡ s + length vs + (n - e) =
      simp (length-append, length-take, length-drop, length_list_of) (omega arith) in
      let same-list : take s l ++ (map numbers.brought vs ++ drop e l) ≡ new =
      ap (λ (us : List ℕ). take s l ++ (us ++ drop e l)) (map-brought vs) in
      let at_slots : b'' ≡ lay b h' new =
      laid ∙ ap (λ (k : ℕ). lay b' (place k h' s) vs) c.room.long
      ∙ (rw (whole, to_end) at (c.room.laid vs refl)) in
      accepts b r (splice s e vs) (sym first) (range_go n s e _ (sym ranged) ∙ some_room _ _ fits) m h'' (s + length vs + (n - e))
      r' none b'' made
      (over ∙ ap (whether (eqb (s + length vs + (n - e)) 0) 0) c.head) refl c.moved refl
      (at_slots ∙ sym (lay-over b h' _ new many) ∙ ap (λ (g : ℕ). lay b g new) (sym over)
      ∙ ap (lay b h'') (sym same-list))
