-- While the mark of a queue stands: which calls are refused, and which still reach the queue. Assumes nothing.
use mathlib.Core.Bool.{true}
use mathlib.Core.List.{List, [], ◌∷◌}
use mathlib.Core.Logic.{◌≢◌, ◌⊎◌, inl, inr, ⊎_elim}
use mathlib.Core.Path.{◌≡◌, refl, ap, ◌∙◌, sym, subst}
use Prim.Native.Nat.{ℕ}
use native.Mathlib.Omega.{arith}
use lib.ListN.{length}
use Rattle.rules.proofs.Choices.{unless-stop}
use Rattle.rules.proofs.Refusals.{queue_ok, queue_go, change_ok, change_go}
use Rattle.rules.proofs.Refused.{first_still}
use Rattle.rules.specs.Calls.{Op}
use Rattle.rules.specs.Choices.{ask, unless}
use Rattle.rules.specs.Outcome.{State, shut, draining, Outcome, refusal, do_rule, do_open, unchanged}
use Rattle.rules.specs.Pairs.{PairOutcome, on_appending, do_append, on_splitting, do_split}
use Rattle.rules.specs.Portions.{turn_on, across, Reaches, portion_into, by_fresh, by_reading, by_split, by_move, OneReaches, this_one, later_one}
use Rattle.rules.specs.Records.{Rec}
use Rattle.rules.specs.Refusals.{on_queue, on_change, on_taking}
use Rattle.rules.specs.Regions.{on_moving, do_move, on_portion, do_portion}
use Rattle.rules.specs.Sequences.{Queue, Pair, CallStep, Call, Side, side_a, side_b, Turn, of_queue, of_drain, of_both, changing, asking, op, freshly, reading, opening, appending, splitting, moving, porting, comparing, takes, if_shut, if_draining, taken_step, queue_step, pair_step, look_step, still_step, one_step, both_step, do_on_queue, first_step, facing, step, run, queue_of, pair_of}

-- ---- what is asked of a marked queue

-- 1 and 2, and then 6: nothing that is asked after is reached
marked_asks : (c : ℕ) (r : Rec) (k : ℕ) → r.mark ≡ true → on_change c r k ≡ on_queue c r 6
unfolding on_change ask
marked_asks c r k m = rw m

-- so something is refused
marked_stops : (c : ℕ) (r : Rec) → on_queue c r 6 ≢ 0
marked_stops c r e = let z = (queue_ok c r 6 e).1 in omega arith

-- a call that asks so: f is its refusal number, and it does a unless one is given
refused_so : {A : Type 0} (c : ℕ) (r : Rec) (k : ℕ) → r.mark ≡ true → (f : A → ℕ) (a u : A) → f u ≡ on_change c r k
    → f (unless (on_change c r k) a u) ≡ on_queue c r 6
refused_so c r k m f a u e =
    let asks = marked_asks c r k m in
    rw (unless-stop (on_change c r k) a u (λ z. marked_stops c r (sym asks ∙ z))) (e ∙ asks)

-- ---- which calls are refused

-- A call of a kind that can change the list or record of the queue that it is made on: every operation, the opening of
-- a drain, and each call on both that does not only look, which is made where the other queue has no open drain: h is
-- what that one holds. (Fresh and image reading take bare slots.)
pub data Changes : State → Call → Type 0 where
  operates : {h : State} (o : Op) → Changes h (of_queue (changing (op o)))
  opens : {h : State} (s e : ℕ) → Changes h (of_queue (changing (opening s e)))
  appends : {r : Rec} → Changes (shut r) (of_both appending)
  splits : {r : Rec} (at : ℕ) → Changes (shut r) (of_both (splitting at))
  moves : {r : Rec} → Changes (shut r) (of_both moving)
  ports : {r : Rec} (n : ℕ) → Changes (shut r) (of_both (porting n))

changes_first : (b : List ℕ) (r : Rec) (b' : List ℕ) (h : State) {k : Call} → r.mark ≡ true → Changes h k
    → (first_step (queue_of b (shut r)) (queue_of b' h) k).refused ≡ on_queue (length b) r 6
unfolding first_step takes if_shut taken_step queue_step pair_step one_step both_step do_on_queue do_rule refusal unchanged do_open
    on_taking do_append on_appending do_split on_splitting do_move on_moving do_portion on_portion
changes_first b r b' h m (operates o) = refused_so (length b) r _ m (λ (u : Outcome). u.answer.refused) _ _ refl
changes_first b r b' h m (opens s e) = refused_so (length b) r _ m (λ (u : Outcome). u.answer.refused) _ _ refl
changes_first b r b' (shut r') m appends =
    refused_so (length b) r _ m (λ (u : PairOutcome). u.answer.refused) _ _ refl
changes_first b r b' (shut r') m (splits at) =
    refused_so (length b) r _ m (λ (u : PairOutcome). u.answer.refused) _ _ refl
changes_first b r b' (shut r') m moves = refused_so (length b) r _ m (λ (u : PairOutcome). u.answer.refused) _ _ refl
changes_first b r b' (shut r') m (ports n) =
    refused_so (length b) r _ m (λ (u : PairOutcome). u.answer.refused) _ _ refl

-- `append` from a marked queue: the queue called on is asked first
append_first : (b : List ℕ) (r : Rec) (b' : List ℕ) (r' : Rec) → r'.mark ≡ true
    → (first_step (queue_of b (shut r)) (queue_of b' (shut r')) (of_both appending)).refused
    ≡ on_change (length b) r (on_queue (length b') r' 6)
unfolding first_step takes if_shut taken_step pair_step both_step do_append on_appending
append_first b r b' r' m =
    rw (
      marked_asks (length b') r' _ m,
      unless-stop (on_change (length b) r (on_queue (length b') r' 6)) _ _
          (λ z. marked_stops (length b') r' (change_ok (length b) r _ z).1),
    )

-- EVERY CHANGE OF A MARKED QUEUE IS REFUSED. Where a queue's slots and record are good and its mark stands, every call
-- of a kind that can change its list or record, whatever its operands, is refused with 6, before 3, 4 and Nothing;
pub marked_refused : (s : Pair) (t : Turn) (r : Rec)
    → let p = facing t.side s in
    p.a.state ≡ shut r → on_queue (length p.a.slots) r 0 ≡ 0 → r.mark ≡ true → Changes p.b.state t.call
    → (step s t).refused ≡ 6
unfolding step
marked_refused s t r e good m k =
    let p = facing t.side s in
    subst (λ (h : State). (first_step (queue_of p.a.slots h) p.b t.call).refused ≡ 6) (sym e)
    (changes_first p.a.slots r p.b.slots p.b.state m k ∙ queue_go (length p.a.slots) r 6 good)

-- and so is `append` of it to another queue, if that one can be changed.
pub marked_lends_none : (s : Pair) (d : Side) (r r' : Rec)
    → let p = facing d s in
    p.a.state ≡ shut r → on_change (length p.a.slots) r 0 ≡ 0
    → p.b.state ≡ shut r' → on_queue (length p.b.slots) r' 0 ≡ 0 → r'.mark ≡ true
    → (step s (turn_on d (of_both appending))).refused ≡ 6
unfolding step
marked_lends_none s d r r' e good e' good' m =
    let p = facing d s in
    subst (λ (h : State). (first_step (queue_of p.a.slots h) p.b (of_both appending)).refused ≡ 6) (sym e)
    (subst (λ (h : State). (first_step (queue_of p.a.slots (shut r)) (queue_of p.b.slots h) (of_both appending)
    ).refused ≡ 6) (sym e')
    (append_first p.a.slots r p.b.slots r' m ∙ change_go (length p.a.slots) r _ good
    ∙ queue_go (length p.b.slots) r' 6 good'))

-- ---- which calls reach it

-- the queue d, now q, is the p that it was, or the call reaches it
abbrev Stays : Side → Turn → Queue → Queue → Type 0
Stays d t q p = (q ≡ p) ⊎ Reaches d t

-- what is refused leaves both queues
still : (p q : Queue) (k : Call) → (first_step p q k).refused ≢ 0 → (first_step p q k).queues ≡ pair_of p q
unfolding still_step
still p q k ne = ap (λ (o : CallStep). o.queues) (first_still p q k ne)

-- a call on the marked queue
module _ (d : Side) (b : List ℕ) (r : Rec) (b' : List ℕ) (m : r.mark ≡ true) where
  changes_still : (h : State) {k : Call} → Changes h k
      → (first_step (queue_of b (shut r)) (queue_of b' h) k).queues.a ≡ queue_of b (shut r)
  changes_still h {k} c = ap (λ (s : Pair). s.a) (still (queue_of b (shut r)) (queue_of b' h) k
      (λ z. marked_stops (length b) r (sym (changes_first b r b' h m c) ∙ z)))

  called_on : (h : State) (k : Call)
      → Stays d (turn_on d k) (first_step (queue_of b (shut r)) (queue_of b' h) k).queues.a (queue_of b (shut r))
  unfolding first_step takes if_shut if_draining taken_step queue_step pair_step look_step still_step
  called_on h (of_queue (changing (op o))) = inl (changes_still h (operates o))
  called_on h (of_queue (changing freshly)) = inr by_fresh
  called_on h (of_queue (changing (reading s))) = inr (by_reading s)
  called_on h (of_queue (changing (opening s e))) = inl (changes_still h (opens s e))
  called_on h (of_queue (asking a)) = inl refl
  called_on h (of_drain k) = inl refl
  called_on (draining e) (of_both k) = inl refl
  called_on (shut r') (of_both appending) = inl (changes_still (shut r') appends)
  called_on (shut r') (of_both (splitting at)) = inl (changes_still (shut r') (splits at))
  called_on (shut r') (of_both moving) = inl (changes_still (shut r') moves)
  called_on (shut r') (of_both (porting n)) = inl (changes_still (shut r') (ports n))
  called_on (shut r') (of_both (comparing a)) = inl refl

-- a call on the other queue
module _ (d : Side) (b' : List ℕ) (r' : Rec) (b : List ℕ) (m : r'.mark ≡ true) where
  append_still : (r : Rec) → (first_step (queue_of b (shut r)) (queue_of b' (shut r')) (of_both appending)).queues.b
      ≡ queue_of b' (shut r')
  append_still r = ap (λ (s : Pair). s.b) (still (queue_of b (shut r)) (queue_of b' (shut r')) (of_both appending)
      (λ z. marked_stops (length b') r' (change_ok (length b) r _ (sym (append_first b r b' r' m) ∙ z)).1))

  called_on_other : (h : State) (k : Call)
      → Stays d (turn_on (across d) k) (first_step (queue_of b h) (queue_of b' (shut r')) k).queues.b
      (queue_of b' (shut r'))
  unfolding first_step takes if_shut if_draining taken_step queue_step pair_step look_step still_step one_step
  called_on_other (shut r) (of_queue (changing k)) = inl refl
  called_on_other (shut r) (of_queue (asking a)) = inl refl
  called_on_other (draining e) (of_queue k) = inl refl
  called_on_other (shut r) (of_drain k) = inl refl
  called_on_other (draining e) (of_drain k) = inl refl
  called_on_other (draining e) (of_both k) = inl refl
  called_on_other (shut r) (of_both appending) = inl (append_still r)
  called_on_other (shut r) (of_both (splitting at)) = inr (by_split at)
  called_on_other (shut r) (of_both moving) = inr by_move
  called_on_other (shut r) (of_both (porting n)) = inr (portion_into n)
  called_on_other (shut r) (of_both (comparing a)) = inl refl

-- either queue called on, either one marked
reached : (d c : Side) (s : Pair) (k : Call) (r : Rec) → (facing d s).a ≡ queue_of (facing d s).a.slots (shut r)
    → r.mark ≡ true → Stays d (turn_on c k) (facing d (step s (turn_on c k)).queues).a (facing d s).a
unfolding step facing across
reached side_a side_a s k r e m =
    subst (λ (p : Queue). Stays side_a (turn_on side_a k) (first_step p s.b k).queues.a p) (sym e)
    (called_on side_a s.a.slots r s.b.slots m s.b.state k)
reached side_b side_b s k r e m =
    subst (λ (p : Queue). Stays side_b (turn_on side_b k) (first_step p s.a k).queues.a p) (sym e)
    (called_on side_b s.b.slots r s.a.slots m s.a.state k)
reached side_a side_b s k r e m =
    subst (λ (p : Queue). Stays side_a (turn_on side_b k) (first_step s.b p k).queues.b p) (sym e)
    (called_on_other side_a s.a.slots r s.b.slots m s.b.state k)
reached side_b side_a s k r e m =
    subst (λ (p : Queue). Stays side_b (turn_on side_a k) (first_step s.a p k).queues.b p) (sym e)
    (called_on_other side_b s.b.slots r s.a.slots m s.a.state k)

-- WHILE THE MARK STANDS. Of any two queues, good or bad, one of which, d, has the mark: a call on either or both leaves
-- that queue as it is, its record and every slot, and so its list; or it is a portion into it, or makes its slots anew.
pub marked_stays : (d : Side) (s : Pair) (t : Turn) (r : Rec) → (facing d s).a.state ≡ shut r → r.mark ≡ true
    → ((facing d (step s t).queues).a ≡ (facing d s).a) ⊎ Reaches d t
marked_stays d s t r e m = reached d t.side s t.call r (ap (queue_of (facing d s).a.slots) e) m

-- And so does a sequence of calls, each given what the last left: the queue is what it was, or one of them reached it.
pub marked_run : (d : Side) (s : Pair) (ts : List Turn) (r : Rec) → (facing d s).a.state ≡ shut r → r.mark ≡ true
    → ((facing d (run s ts)).a ≡ (facing d s).a) ⊎ OneReaches d ts
unfolding run
marked_run d s [] r e m = inl refl
marked_run d s (t ∷ ts) r e m =
    ⊎_elim
    (λ same. ⊎_elim (λ later. inl (later ∙ same)) (λ one. inr (later_one one))
    (marked_run d (step s t).queues ts r (ap (λ (q : Queue). q.state) same ∙ e) m))
    (λ one. inr (this_one one)) (marked_stays d s t r e m)
