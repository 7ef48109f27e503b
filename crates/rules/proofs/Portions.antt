-- Portions of a queue, one behind the other, do what one portion of their sum does, and one portion of all into a fresh
-- queue does what the whole move does. Assumes nothing.
use mathlib.Core.List.{List, [], ◌∷◌, ◌++◌}
use mathlib.Core.Path.{◌≡◌, refl, ap, ◌∙◌, sym, subst}
use Prim.Native.Nat.{ℕ, ◌+◌, ◌-◌, ◌≤◌, min}
use native.Mathlib.Omega.{arith}
use lib.ListN.{length, take}
use lib.Seq.{take_all}
use Rattle.rules.proofs.Choices.{when-accepted}
use Rattle.rules.proofs.Fit.{stands-shut}
use Rattle.rules.proofs.Held.{length-held, new_good, new_held}
use Rattle.rules.proofs.Refusals.{queue_asks, some_room}
use Rattle.rules.proofs.Refused.{turned}
use Rattle.rules.proofs.Regions.{rest, portion_ok}
use Rattle.rules.proofs.Slots.{length-lay, lay_none}
use Rattle.rules.specs.Choices.{whether, unless}
use Rattle.rules.specs.Ends.{clear}
use Rattle.rules.specs.Makes.{made_with}
use Rattle.rules.specs.Outcome.{State, shut, draining, accepted, rec_after}
use Rattle.rules.specs.Portions.{AllAccepted, no_more, accepting, DoesAs, moved_over, portion, portions, whole_move}
use Rattle.rules.specs.Records.{Rec, held, stepped, new_rec, with_mark}
use Rattle.rules.specs.Pairs.{PairOutcome, crossing}
use Rattle.rules.specs.Refusals.{on_change, on_queue, room}
use Rattle.rules.specs.Regions.{on_moving, moved_whole, do_move, pass_on, on_portion, do_portion}
use Rattle.rules.specs.Sequences.{Side, side_a, side_b, facing, step, run, Queue, Pair, CallStep, pair_of, queue_of, first_step, of_both, moving, porting, stands, takes, if_shut, taken_step, pair_step, both_step, still_step, made_or}
use Rattle.rules.specs.Slots.{lay}
use Rattle.rules.proofs.Passing.{none_to_come, gained, passed, crossed, portion-passes, passed_passed}

-- ---- two portions are one

-- an accepted portion was not refused
portion_asked : (b : List ℕ) (r : Rec) (b' : List ℕ) (r' : Rec) (n : ℕ)
    → (first_step (queue_of b (shut r)) (queue_of b' (shut r')) (of_both (porting n))).refused ≡ 0
    → on_portion (length b) r (length b') r' n ≡ 0
unfolding first_step takes if_shut taken_step pair_step both_step do_portion
portion_asked b r b' r' n z =
    let asks = on_portion (length b) r (length b') r' n in
    when-accepted asks _ _ (λ (m : PairOutcome). m.answer.refused) refl z (λ m. asks ≡ 0) (λ e. e)

-- after an accepted portion, another one is only asked for room
portion_asks : (c : ℕ) (r : Rec) (c' : ℕ) (r' : Rec) (m n : ℕ) → on_portion c r c' r' m ≡ 0
    → r'.len + min n r.len ≤ c'
    → on_portion c r c' r' n ≡ 0
unfolding on_portion
portion_asks c r c' r' m n z le =
    let room_for : room c' (r'.len + min n r.len) ≡ room c' (r'.len + min m r.len) =
    some_room c' _ le ∙ sym (some_room c' _ (portion_ok c r c' r' m z).2) in
    ap (λ (k : ℕ). on_change c r (on_queue c' r' k)) room_for ∙ z

-- what two portions, one behind the other, say of the one of their sum: o is the first's step
abbrev AsOne : Queue → Queue → ℕ → ℕ → CallStep → Type 0
AsOne p q m n o =
    let u = first_step o.queues.a o.queues.b (of_both (porting n)) in
    u.refused ≡ 0 → first_step p q (of_both (porting (m + n))) ≡ crossed u.queues (o.moved + u.moved)

-- behind a portion that was not refused
second_behind : (b : List ℕ) (r : Rec) (b' : List ℕ) (r' : Rec) (m n : ℕ)
    → on_portion (length b) r (length b') r' m ≡ 0
    → let k = min m r.len in
    AsOne (queue_of b (shut r)) (queue_of b' (shut r')) m n (crossed (passed b r b' r' k) k)
unfolding passed rec_after pass_on gained stepped with_mark
second_behind b r b' r' m n z y =
    let k = min m r.len in
    let u = rest b r k in
    let u' = gained r r' k in
    let p = lay b' r'.head (held b' r' ++ take k (held b r)) in
    let asked = portion_asked b u p u' n y in
    let g = portion_ok (length b) r (length b') r' m z in
    let fits : u'.len + min n u.len ≤ length b' =
    rw length-lay at (portion_ok (length b) u (length p) u' n asked).2 in
    let sum : min (m + n) r.len ≡ k + min n u.len = omega arith in
    portion-passes b r b' r' (m + n) (portion_asks (length b) r (length b') r' m (m + n) z (omega arith))
    ∙ ap (λ (i : ℕ). crossed (passed b r b' r' i) i) sum
    ∙ ap (λ (s : Pair). crossed s (k + min n u.len))
    (sym (passed_passed b r b' r' k (min n u.len) g.0 g.1 (omega arith) g.2))
    ∙ ap (λ (o : CallStep). crossed o.queues (k + o.moved)) (sym (portion-passes b u p u' n asked))

two_shut : (b : List ℕ) (r : Rec) (b' : List ℕ) (r' : Rec) (m n : ℕ)
    → let p = queue_of b (shut r) in
    let q = queue_of b' (shut r') in
    let o = first_step p q (of_both (porting m)) in o.refused ≡ 0 → AsOne p q m n o
two_shut b r b' r' m n z =
    let asked = portion_asked b r b' r' m z in
    subst (AsOne (queue_of b (shut r)) (queue_of b' (shut r')) m n) (sym (portion-passes b r b' r' m asked))
    (second_behind b r b' r' m n asked)

-- whatever is held; where a drain is open, a portion counts as none
two_first : (b : List ℕ) (h : State) (b' : List ℕ) (h' : State) (m n : ℕ)
    → let p = queue_of b h in
    let q = queue_of b' h' in
    let o = first_step p q (of_both (porting m)) in o.refused ≡ 0 → AsOne p q m n o
unfolding first_step takes if_shut taken_step still_step
two_first b (shut r) b' (shut r') m n z = two_shut b r b' r' m n z
two_first b (draining d) b' h' m n z = λ y. refl
two_first b (shut r) b' (draining d') m n z = λ y. refl

-- on either side
two_portions : (d : Side) (s : Pair) (m n : ℕ) → AllAccepted s (portions d (m ∷ n ∷ []))
    → DoesAs s (portions d (m ∷ n ∷ [])) (portion d (m + n))
unfolding step run facing moved_over
two_portions side_a s m n (accepting z (accepting y no_more)) =
    let e = two_first s.a.slots s.a.state s.b.slots s.b.state m n z y in
    record {
      accepted = ap (λ (o : CallStep). o.refused) e;
      queues = sym (ap (λ (o : CallStep). o.queues) e);
      moved = omega (arith, ap (λ (o : CallStep). o.moved) e);
    }
two_portions side_b s m n (accepting z (accepting y no_more)) =
    let e = two_first s.b.slots s.b.state s.a.slots s.a.state m n z y in
    record {
      accepted = ap (λ (o : CallStep). o.refused) e;
      queues = sym (ap (λ (o : CallStep). facing side_b o.queues) e);
      moved = omega (arith, ap (λ (o : CallStep). o.moved) e);
    }

-- ---- and so are any, one or more

-- n and all that follow
unfoldable together : ℕ → List ℕ → ℕ
together n [] = n
together n (m ∷ ns) = n + together m ns

one_portion : (d : Side) (s : Pair) (n : ℕ) (ns : List ℕ) → AllAccepted s (portions d (n ∷ ns))
    → DoesAs s (portions d (n ∷ ns)) (portion d (together n ns))
unfolding run moved_over together
one_portion d s n [] (accepting z no_more) = record { accepted = z; queues = refl; moved = omega arith }
one_portion d s n (m ∷ ns) (accepting z later) =
    let o = one_portion d (step s (portion d n)).queues m ns later in
    let t = two_portions d s n (together m ns) (accepting z (accepting o.accepted no_more)) in
    record {
      accepted = t.accepted;
      queues = o.queues ∙ t.queues;
      moved = omega (arith, o.moved, t.moved);
    }

-- ---- one portion of all, into a fresh queue

-- the whole move asks what that portion asks
move_asks : (c : ℕ) (r : Rec) (c' n : ℕ) → on_portion c r c' (new_rec 0) n ≡ 0 → r.len ≤ n → on_moving c r c' ≡ 0
unfolding on_moving on_portion new_rec
move_asks c r c' n z all =
    let many : r.len ≡ 0 + min n r.len = omega arith in
    ap (on_change c r)
    (sym (queue_asks c' (new_rec 0) (room c' r.len) (new_good c' 0 (omega arith)))
    ∙ ap (λ (k : ℕ). on_queue c' (new_rec 0) (room c' k)) many)
    ∙ z

-- the records that it leaves: the old one emptied, and a new one with no mark
rest_all : (b : List ℕ) (r : Rec) → rest b r r.len ≡ stepped r 0 0
unfolding rec_after pass_on whether
rest_all b r = let none_left : r.len - r.len ≡ 0 = omega arith in rw none_left

gained_all : (r : Rec) → gained r (new_rec 0) r.len ≡ new_rec r.len
unfolding gained new_rec stepped with_mark
gained_all r =
    let many : 0 + r.len ≡ r.len = omega arith in
    rw (many, none_to_come r.len r (omega arith))

-- and so the whole move leaves what it leaves
move_passes : (b : List ℕ) (r : Rec) (b' : List ℕ) → on_moving (length b) r (length b') ≡ 0
    → first_step (queue_of b (shut r)) (queue_of b' (shut (new_rec 0))) (of_both moving)
    ≡ crossed (passed b r b' (new_rec 0) r.len) r.len
unfolding first_step takes if_shut taken_step pair_step both_step do_move moved_whole crossing made_with made_or unless passed
    accepted rec_after clear new_rec stepped
move_passes b r b' z =
    let gone : stands b' (shut (new_rec 0)) ≡ [] =
    stands-shut b' (new_rec 0) (new_good (length b') 0 (omega arith)) ∙ new_held b' in
    let all : take r.len (held b r) ≡ held b r = take_all r.len (held b r) (omega (arith, length-held b r)) in
    rw (z, gone, all, new_held, length-held, lay_none, rest_all b r, gained_all)

-- an accepted portion that leaves nothing took all
took_all : (b : List ℕ) (r : Rec) (b' : List ℕ) (r' : Rec) (n : ℕ) (e : Rec)
    → let o = first_step (queue_of b (shut r)) (queue_of b' (shut r')) (of_both (porting n)) in
    o.refused ≡ 0 → o.queues.a.state ≡ shut e → e.len ≡ 0 → r.len ≤ n
unfolding if_shut passed rec_after pass_on stepped
took_all b r b' r' n e z ends none_left =
    let k = min n r.len in
    let left : r.len - k ≡ e.len =
    ap (if_shut 0 (λ (u : Rec). u.len))
    (sym (ap (λ (o : CallStep). o.queues.a.state) (portion-passes b r b' r' n (portion_asked b r b' r' n z))) ∙ ends)
    in omega arith

-- so it is the whole move
whole_first : (b : List ℕ) (r : Rec) (b' : List ℕ) (n : ℕ) (e : Rec)
    → let p = queue_of b (shut r) in
    let q = queue_of b' (shut (new_rec 0)) in
    let o = first_step p q (of_both (porting n)) in
    o.refused ≡ 0 → o.queues.a.state ≡ shut e → e.len ≡ 0 → o ≡ first_step p q (of_both moving)
whole_first b r b' n e z ends none_left =
    let asked = portion_asked b r b' (new_rec 0) n z in
    let le = took_all b r b' (new_rec 0) n e z ends none_left in
    let all : min n r.len ≡ r.len = omega arith in
    portion-passes b r b' (new_rec 0) n asked
    ∙ ap (λ (k : ℕ). crossed (passed b r b' (new_rec 0) k) k) all
    ∙ sym (move_passes b r b' (move_asks (length b) r (length b') n asked le))

-- on either side
whole_portion : (d : Side) (b : List ℕ) (r : Rec) (b' : List ℕ) (n : ℕ) (e : Rec)
    → let s = facing d (pair_of (queue_of b (shut r)) (queue_of b' (shut (new_rec 0)))) in
    let o = step s (portion d n) in
    o.refused ≡ 0 → (facing d o.queues).a.state ≡ shut e → e.len ≡ 0 → o ≡ step s (whole_move d)
unfolding step facing
whole_portion side_a b r b' n e z ends none_left = whole_first b r b' n e z ends none_left
whole_portion side_b b r b' n e z ends none_left = ap turned (whole_first b r b' n e z ends none_left)

-- PORTIONS ARE A MOVE. Of any slots b and record r, and any slots b' with a fresh queue over them: one or more portions
-- of the queue into the fresh one, of any numbers, on either side, with no other call between. Where all are accepted
-- and the old queue ends with len 0, the whole move is accepted in their place, and leaves what they leave: both
-- records with their marks, and every slot of both buffers; and their moved counts add up to its.
pub portions_are_a_move : (d : Side) (b : List ℕ) (r : Rec) (b' : List ℕ) (n : ℕ) (ns : List ℕ) (e : Rec)
    → let s = facing d (pair_of (queue_of b (shut r)) (queue_of b' (shut (new_rec 0)))) in
    let ts = portions d (n ∷ ns) in
    AllAccepted s ts → (facing d (run s ts)).a.state ≡ shut e → e.len ≡ 0 → DoesAs s ts (whole_move d)
portions_are_a_move d b r b' n ns e all ends none_left =
    let s = facing d (pair_of (queue_of b (shut r)) (queue_of b' (shut (new_rec 0)))) in
    let o = one_portion d s n ns all in
    let w = whole_portion d b r b' (together n ns) e o.accepted
    (ap (λ (p : Pair). (facing d p).a.state) (sym o.queues) ∙ ends) none_left in
    record {
      accepted = sym (ap (λ (u : CallStep). u.refused) w) ∙ o.accepted;
      queues = o.queues ∙ ap (λ (u : CallStep). u.queues) w;
      moved = o.moved ∙ ap (λ (u : CallStep). u.moved) w;
    }
