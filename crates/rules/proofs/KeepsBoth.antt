-- What each call on either queue or on both keeps. Assumes nothing.
use mathlib.Core.List.{List, []}
use mathlib.Core.Logic.{◌≢◌}
use mathlib.Core.Option.{Option, some, none}
use mathlib.Core.Path.{◌≡◌, refl}
use Prim.Native.Nat.{ℕ, ◌+◌, min}
use native.Mathlib.Omega.{arith}
use lib.ListN.{length}
use Rattle.rules.proofs.Count.{tally-append, tally_nil, tally_split}
use Rattle.rules.proofs.Fit.{Fit, fit_shut, shut_good, stands-shut, stands-mark}
use Rattle.rules.proofs.Keeps.{Keeps, keeps_change, left-slots, left_fit, left-stands, made_fit, made-stands, keeps_drained}
use Rattle.rules.proofs.Held.{mark_good}
use Rattle.rules.proofs.Made.{map-brought}
use Rattle.rules.proofs.Pairs.{append_leaves, split_leaves}
use Rattle.rules.proofs.Refusals.{Good}
use Rattle.rules.proofs.Regions.{move_leaves, portion_leaves}
use Rattle.rules.proofs.Slots.{length-lay}
use Rattle.rules.proofs.Taken.{by_taken}
use Rattle.rules.proofs.Choices.{unless-stop, by-either}
use Rattle.rules.specs.Asks.{Sight}
use Rattle.rules.specs.Count.{tally}
use Rattle.rules.specs.Ends.{clear, truncate}
use Rattle.rules.specs.Joins.{extend_with}
use Rattle.rules.specs.Looks.{Look}
use Rattle.rules.specs.Makes.{made_with}
use Rattle.rules.specs.Outcome.{State, Outcome, shut, draining}
use Rattle.rules.specs.Pairs.{on_appending, appended, crossing, do_append, on_splitting, splitted, do_split}
use Rattle.rules.specs.Records.{Rec, held}
use Rattle.rules.specs.Regions.{on_moving, moved_whole, do_move, on_portion, pass_on, ported, do_portion}
use Rattle.rules.specs.Sequences.{Queue, CallStep, stands, still_step, look_step, queue_of, one_step, QueueCall, queue_step, changing, asking, made_or, both_step, PairCall, pair_step, appending, splitting, moving, porting, comparing, Call, first_step, taken_step, Pair, step, side_a, facing, side_b, Turn, Side}
use Rattle.rules.specs.Choices.{unless}

pub record Keeps2 (p q : Queue) (s : CallStep) : Type 0 where
  pub slots-a : length s.queues.a.slots ≡ length p.slots
  pub slots-b : length s.queues.b.slots ≡ length q.slots
  pub fit_a : Fit s.queues.a.slots s.queues.a.state
  pub fit_b : Fit s.queues.b.slots s.queues.b.state
  pub balance : (x : ℕ) → tally x (stands p.slots p.state) + tally x (stands q.slots q.state)
      + tally x s.entered
      ≡ tally x (stands s.queues.a.slots s.queues.a.state)
      + tally x (stands s.queues.b.slots s.queues.b.state) + tally x s.left

-- passed over, or a look
keeps_still : (p q : Queue) (n : ℕ) (s : Option Sight) → Fit p.slots p.state → Fit q.slots q.state
    → Keeps2 p q (still_step p q n s)
unfolding still_step
keeps_still p q n s f f' = record { slots-a = refl; slots-b = refl; fit_a = f; fit_b = f'; balance = λ x. refl }

keeps_look : (p q : Queue) (l : Look Sight) → Fit p.slots p.state → Fit q.slots q.state
    → Keeps2 p q (look_step p q l)
unfolding look_step
keeps_look p q l f f' = keeps_still p q _ _ f f'

-- a call that leaves the second queue
keeps_other : (b : List ℕ) (h : State) (q : Queue) (o : Outcome) → Fit q.slots q.state → Keeps b h o
    → Keeps2 (queue_of b h) q (one_step q o)
unfolding one_step
keeps_other b h q o f' k = record {
  slots-a = k.slots;
  slots-b = refl;
  fit_a = k.fit;
  fit_b = f';
  balance = λ x. omega (arith, k.balance x);
}

-- each call on a queue
keeps_queue : (b : List ℕ) (r : Rec) (q : Queue) → Good (length b) r → Fit q.slots q.state → (k : QueueCall)
    → Keeps2 (queue_of b (shut r)) q (queue_step (queue_of b (shut r)) q r k)
unfolding queue_step
keeps_queue b r q g f' (changing k) = keeps_other b _ q _ f' (keeps_change b r g k)
keeps_queue b r q g f' (asking a) = keeps_look _ q _ (fit_shut g) f'

made_some : (h : State) (r : Rec) → made_or h (some r) ≡ shut r
unfolding made_or
made_some h r = refl

made_none : (h : State) → made_or h none ≡ h
unfolding made_or
made_none h = refl

module _ (b : List ℕ) (r : Rec) (g : Good (length b) r) (b' : List ℕ) (r' : Rec) (g' : Good (length b') r') where
  -- refused with n
  refused_keeps : (n : ℕ) (o : Option Rec) (gone : List ℕ) → n ≢ 0 → made_or (shut r') o ≡ shut r'
      → Keeps2 (queue_of b (shut r)) (queue_of b' (shut r'))
      (both_step (shut r') (record {
        answer = record { refused = n; moved = 0; rec = r; other = o };
        slots = b;
        slots' = b';
      }) gone)
  unfolding both_step
  refused_keeps n o gone ne same =
      rw (same, unless-stop n gone [] ne)
      (record { slots-a = refl; slots-b = refl; fit_a = fit_shut g; fit_b = fit_shut g'; balance = λ x. refl })

  append-done : on_appending (length b) r (length b') r' ≡ 0
      → Keeps2 (queue_of b (shut r)) (queue_of b' (shut r')) (both_step (shut r') (appended b r b' r') [])
  unfolding both_step appended crossing made_or unless extend_with clear
  append-done z =
      let o = append_leaves b r b' r' z in
      record {
        slots-a = left-slots b r _;
        slots-b = left-slots b' r' _;
        fit_a = left_fit b r _ o.0;
        fit_b = left_fit b' r' _ o.1;
        balance = λ x.
            rw (
              stands-shut b r g,
              stands-shut b' r' g',
              left-stands b r _ o.0,
              left-stands b' r' _ o.1,
              map-brought,
              tally-append,
            )
            (omega (arith, tally_nil x));
      }

  keeps_append : Keeps2 (queue_of b (shut r)) (queue_of b' (shut r')) (both_step (shut r') (do_append b r b' r') [])
  unfolding do_append
  keeps_append =
      by-either (on_appending (length b) r (length b') r')
      (λ m. Keeps2 (queue_of b (shut r)) (queue_of b' (shut r')) (both_step (shut r') m [])) append-done
      (λ ne. refused_keeps _ (some r') [] ne (made_some (shut r') r'))

  split_done : (at : ℕ) → on_splitting (length b) r (length b') at ≡ 0
      → Keeps2 (queue_of b (shut r)) (queue_of b' (shut r'))
      (both_step (shut r') (splitted b r b' at) (stands b' (shut r')))
  unfolding both_step splitted crossing made_with made_or unless truncate
  split_done at z =
      let o = split_leaves b r (length b') at z in
      record {
        slots-a = left-slots b r _;
        slots-b = length-lay b' _ _;
        fit_a = left_fit b r _ o.0;
        fit_b = made_fit b' _ o.1;
        balance = λ x. rw (stands-shut b r g, left-stands b r _ o.0, made-stands b' _ o.1)
            (omega (arith, tally_split x at (held b r), tally_nil x));
      }

  keeps_split : (at : ℕ) → Keeps2 (queue_of b (shut r)) (queue_of b' (shut r'))
      (both_step (shut r') (do_split b r b' at) (stands b' (shut r')))
  unfolding do_split
  keeps_split at =
      by-either (on_splitting (length b) r (length b') at)
      (λ m. Keeps2 (queue_of b (shut r)) (queue_of b' (shut r')) (both_step (shut r') m (stands b' (shut r'))))
      (split_done at)
      (λ ne. refused_keeps _ none _ ne (made_none (shut r')))

  -- gone is what the bare slots held before, and has left
  move_done : (gone : List ℕ) → gone ≡ stands b' (shut r') → on_moving (length b) r (length b') ≡ 0
      → Keeps2 (queue_of b (shut r)) (queue_of b' (shut r')) (both_step (shut r') (moved_whole b r b') gone)
  unfolding both_step moved_whole crossing made_with made_or unless clear
  move_done gone held z =
      let o = move_leaves b r (length b') z in
      record {
        slots-a = left-slots b r _;
        slots-b = length-lay b' _ _;
        fit_a = left_fit b r _ o.0;
        fit_b = made_fit b' _ o.1;
        balance = λ x. rw (held, stands-shut b r g, left-stands b r _ o.0, made-stands b' _ o.1)
            (omega (arith, tally_nil x));
      }

  keeps_move : (gone : List ℕ) → gone ≡ stands b' (shut r')
      → Keeps2 (queue_of b (shut r)) (queue_of b' (shut r')) (both_step (shut r') (do_move b r b') gone)
  unfolding do_move
  keeps_move gone held =
      by-either (on_moving (length b) r (length b'))
      (λ m. Keeps2 (queue_of b (shut r)) (queue_of b' (shut r')) (both_step (shut r') m gone)) (move_done gone held)
      (λ ne. refused_keeps _ none gone ne (made_none (shut r')))

  portion-done : (n : ℕ) → on_portion (length b) r (length b') r' n ≡ 0
      → Keeps2 (queue_of b (shut r)) (queue_of b' (shut r')) (both_step (shut r') (ported b r b' r' n) [])
  unfolding both_step ported crossing made_or unless pass_on extend_with
  portion-done n z =
      let o = portion_leaves b r b' r' n z in
      record {
        slots-a = left-slots b r _;
        slots-b = left-slots b' r' _;
        fit_a = left_fit b r _ o.0;
        fit_b = fit_shut (mark_good _ _ _ (shut_good (left_fit b' r' _ o.1)));
        balance = λ x.
            rw (
              stands-shut b r g,
              stands-shut b' r' g',
              left-stands b r _ o.0,
              stands-mark,
              left-stands b' r' _ o.1,
              map-brought,
              tally-append,
            )
            (omega (arith, tally_nil x, tally_split x (min n r.len) (held b r)));
      }

  keeps_portion : (n : ℕ)
      → Keeps2 (queue_of b (shut r)) (queue_of b' (shut r')) (both_step (shut r') (do_portion b r b' r' n) [])
  unfolding do_portion
  keeps_portion n =
      by-either (on_portion (length b) r (length b') r' n)
      (λ m. Keeps2 (queue_of b (shut r)) (queue_of b' (shut r')) (both_step (shut r') m [])) (portion-done n)
      (λ ne. refused_keeps _ (some r') [] ne (made_some (shut r') r'))

  -- each call on both
  keeps_pair : (k : PairCall)
      → Keeps2 (queue_of b (shut r)) (queue_of b' (shut r')) (pair_step (queue_of b (shut r)) (queue_of b' (shut r')) r r' k)
  unfolding pair_step
  keeps_pair appending = keeps_append
  keeps_pair (splitting at) = keeps_split at
  keeps_pair moving = keeps_move _ refl
  keeps_pair (porting n) = keeps_portion n
  keeps_pair (comparing a) = keeps_look _ _ _ (fit_shut g) (fit_shut g')

-- each call on the first queue, of its drain, and on both
pub keeps_first : (p q : Queue) → Fit p.slots p.state → Fit q.slots q.state → (k : Call)
    → Keeps2 p q (first_step p q k)
unfolding first_step taken_step
keeps_first p q f f' k =
    by_taken f f' k
    (λ h h' t. let p' = queue_of p.slots h in let q' = queue_of q.slots h' in Keeps2 p' q' (taken_step p' q' t))
    (keeps_still p q 0 none f f')
    (λ r g c. keeps_queue p.slots r q g f' c)
    (λ d few g c. keeps_other p.slots (draining d) q _ f' (keeps_drained p.slots d few g c))
    (λ r r' g g' c. keeps_pair p.slots r g q.slots r' g' c)

keeps_a : (s : Pair) → Fit s.a.slots s.a.state → Fit s.b.slots s.b.state → (k : Call)
    → Keeps2 s.a s.b (step s (record { side = side_a; call = k }))
unfolding step facing
keeps_a s f f' k =
    let o = keeps_first s.a s.b f f' k in
    record { slots-a = o.slots-a; slots-b = o.slots-b; fit_a = o.fit_a; fit_b = o.fit_b; balance = o.balance }

keeps_b : (s : Pair) → Fit s.a.slots s.a.state → Fit s.b.slots s.b.state → (k : Call)
    → Keeps2 s.a s.b (step s (record { side = side_b; call = k }))
unfolding step facing
keeps_b s f f' k =
    let o = keeps_first s.b s.a f' f k in
    record {
      slots-a = o.slots-b;
      slots-b = o.slots-a;
      fit_a = o.fit_b;
      fit_b = o.fit_a;
      balance = λ x. omega (arith, o.balance x);
    }

-- each call on either queue
pub keeps : (s : Pair) → Fit s.a.slots s.a.state → Fit s.b.slots s.b.state → (t : Turn)
    → Keeps2 s.a s.b (step s t)
keeps s f f' t = by_side t.side t.call
  where
    by_side : (d : Side) (k : Call) → Keeps2 s.a s.b (step s (record { side = d; call = k }))
    by_side side_a k = keeps_a s f f' k
    by_side side_b k = keeps_b s f f' k
