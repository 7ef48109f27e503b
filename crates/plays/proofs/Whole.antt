-- A whole replay, from a position of the bytes on. Assumes nothing.
use mathlib.Core.List.{List}
use mathlib.Core.Path.{◌≡◌, refl, sym, ◌∙◌, ap}
use Prim.Native.Nat.{ℕ, zero, suc, ◌+◌, ◌-◌, ◌≤◌}
use native.Mathlib.Omega.{arith}
use lib.ListN.{length, drop}
use Rattle.plays.proofs.RecordBytes.{at_end}
use Rattle.plays.proofs.Records.{Ends, record_ends, later, record_later}
use Rattle.rules.specs.Journals.{Got, taken, broken, cut, ended, record_at}
use Rattle.rules.specs.WholeReplay.{Play, Part, ◌then◌, break_off, play_record, last_line, replayed}

-- what is done for what stands at position p, where `more` is done behind a record
abbrev pub from : ℕ → Play → (ℕ → Play → Part) → Got → Part
from p y more (taken e q) = let t = play_record y e (q - p) in t then more q t.play
from p y more broken = break_off y then last_line y
from p y more cut = break_off y then last_line y
from p y more ended = last_line y

-- one record, and then the others
replays_one : (k : ℕ) (s : List ℕ) (p : ℕ) (y : Play) → replayed (suc k) s p y ≡ from p y (replayed k s) (record_at s p)
unfolding replayed
replays_one k s p y = at (record_at s p)
  where
    at : (g : Got) → elim g [
      | taken e q ↦ (let t = play_record y e (q - p) in t then replayed k s q t.play)
      | broken ↦ break_off y then last_line y
      | cut ↦ break_off y then last_line y
      | ended ↦ last_line y
    ] ≡ from p y (replayed k s) g
    at (taken e q) = refl
    at broken = refl
    at cut = refl
    at ended = refl

-- no bytes are left
none_left : (k : ℕ) (s : List ℕ) (p : ℕ) (y : Play) → length s ≤ p → replayed zero s p y ≡ replayed (suc k) s p y
unfolding replayed
none_left k s p y le = sym (replays_one k s p y ∙ ap (from p y (replayed k s)) (sym (at_end s p le)))

-- as many records as there are bytes are enough, and more change nothing
pub enough : (j k : ℕ) (s : List ℕ) (p : ℕ) (y : Play) → length s - p ≤ j → length s - p ≤ k
    → replayed j s p y ≡ replayed k s p y
enough zero zero s p y a b = refl
enough zero (suc k) s p y a b =
    none_left k s p y (omega arith)
enough (suc j) zero s p y a b = sym (none_left j s p y (omega arith))
enough (suc j) (suc k) s p y a b =
    replays_one j s p y ∙ at (λ q x c d. enough j k s q x c d) (record_at s p) (record_ends s p)
    ∙ sym (replays_one k s p y)
  where
    at : ((q : ℕ) (x : Play) → length s - q ≤ j → length s - q ≤ k → replayed j s q x ≡ replayed k s q x) → (g : Got)
        → Ends p (length s) g → from p y (replayed j s) g ≡ from p y (replayed k s) g
    at more (taken e q) h = ap (λ (x : Part). play_record y e (q - p) then x)
        (more q (play_record y e (q - p)).play (omega (arith, h.0)) (omega (arith, h.0)))
    at more broken h = refl
    at more cut h = refl
    at more ended h = refl

-- the rest of the bytes, as a journal of its own
pub shifted : (k : ℕ) (s : List ℕ) (u p : ℕ) (y : Play) → replayed k (drop u s) p y ≡ replayed k s (u + p) y
unfolding replayed
shifted zero s u p y = refl
shifted (suc k) s u p y =
    replays_one k (drop u s) p y ∙ at (λ q x. shifted k s u q x) (record_at (drop u s) p)
    ∙ ap (from (u + p) y (replayed k s)) (sym (record_later s u p)) ∙ sym (replays_one k s (u + p) y)
  where
    same : (q : ℕ) → q - p ≡ u + q - (u + p)
    same q = omega arith

    at : ((q : ℕ) (x : Play) → replayed k (drop u s) q x ≡ replayed k s (u + q) x) → (g : Got)
        → from p y (replayed k (drop u s)) g ≡ from (u + p) y (replayed k s) (later u g)
    at more (taken e q) =
        (λ i. play_record y e (same q i) then replayed k (drop u s) q (play_record y e (same q i)).play)
        ∙ ap (λ (x : Part). play_record y e (u + q - (u + p)) then x) (more q (play_record y e (u + q - (u + p))).play)
    at more broken = refl
    at more cut = refl
    at more ended = refl

-- one record, and then the others, where there are as many as bytes
pub replays_here : (s : List ℕ) (p : ℕ) (y : Play)
    → replayed (length s) s p y ≡ from p y (replayed (length s) s) (record_at s p)
replays_here s p y =
    enough (length s) (suc (length s)) s p y (omega arith) (omega arith) ∙ replays_one (length s) s p y
