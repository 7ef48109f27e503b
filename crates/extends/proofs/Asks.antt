-- The tests of the calls that join, in their order. Assumes nothing.
use Rattle.std.proofs.Common.{◌≡◌, ℕ, ◌<◌, ◌≤◌, leb, sym, ap, ◌∙◌}
use borrow.Author.Tests.{lt-leb, le-leb}
use Rattle.queue.proofs.Numbers.{some_number}
use Rattle.queue.specs.Answers.{number_of}
use Rattle.rules.proofs.Refusals.{change_stop, change_go, change_ok, slots_asks, no_room, some_room}
use Rattle.rules.specs.Choices.{ask}
use Rattle.rules.specs.Records.{Rec}
use Rattle.rules.specs.Refusals.{on_change, on_slots, most_slots, room}
use Rattle.queue.specs.declared.refusals.Refusal.{Refusal}
use Rattle.queue.specs.declared.refusals.Refusal.TheVariants.{Slots, Position, Room}

-- 1, 2 or 6 of a queue is given, whatever is asked after
pub change_refuses : (c : ℕ) (r : Rec) (k : ℕ) (x : Refusal) → number_of x ≡ on_change c r 0
    → number_of x ≡ on_change c r k
change_refuses c r k x e = sym (change_stop c r k (number_of x) (some_number x) (sym e))

-- past all tests, past the first
pub passed_first : (c : ℕ) (r : Rec) (k : ℕ) → 0 ≡ on_change c r k → on_change c r 0 ≡ 0
passed_first c r k e = ap (on_change c r) (sym (change_ok c r k (sym e)).1) ∙ sym e

-- 1 of a bare target is given
pub slots_refuse : (c k : ℕ) → most_slots < c → on_slots c k ≡ number_of Slots
unfolding on_slots ask number_of
slots_refuse c k lt = rw (lt-leb c most_slots lt)

-- 3 of a position is given, and it is not
pub position_refuses : (p n k : ℕ) → n < p → ask (leb p n) 3 k ≡ number_of Position
unfolding ask number_of
position_refuses p n k lt = rw (lt-leb p n lt)

pub position_passes : (p n k : ℕ) → p ≤ n → ask (leb p n) 3 k ≡ k
unfolding ask
position_passes p n k le = rw (le-leb p n le)

-- 4 is given
pub room_refuses : (c n : ℕ) → c < n → room c n ≡ number_of Room
unfolding number_of
room_refuses c n lt = no_room c n lt

-- for what the tests answer
pub ruleset asks = (
  change_refuses,
  change_go,
  slots_refuse,
  slots_asks,
  position_refuses,
  position_passes,
  room_refuses,
  some_room,
)
