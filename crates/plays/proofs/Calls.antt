-- A call does so many steps, one after the other: those done, and those that are left. Assumes nothing.
use mathlib.Core.Bool.{Bool, false}
use mathlib.Core.List.{List, ◌++◌}
use mathlib.Core.Path.{◌≡◌, sym, ◌∙◌, ap}
use Prim.Native.Nat.{ℕ, suc, ◌+◌, ◌-◌, ◌≤◌}
use native.Mathlib.Nat.{zero-add}
use native.Mathlib.Omega.{arith}
use lib.ListN.{length, take, drop}
use lib.Seq.{sets-eq, take-append_seam, drop-append_seam}
use Rattle.lines.specs.Puts.{Puts}
use Rattle.plays.proofs.Done.{used_more, play_now, does_then, does_nothing, does_as}
use Rattle.plays.proofs.Parts.{stay_then, then_stay, then_assoc}
use Rattle.plays.proofs.Quiet.{step_quiet, after_quiet}
use Rattle.plays.specs.Pieces.{step, steps, advanced}
use Rattle.plays.specs.Playing.{Does, part_of, play_of}
use Rattle.plays.specs.declared.playing.Playing.{Playing}
use Rattle.plays.specs.declared.playing.Advanced.{Advanced}
use Rattle.rules.specs.WholeReplay.{Play, Part, ◌then◌, stay}

-- from a0 in the slots b0 and the buffer t0 on, a part is done, and the k steps that are left make w of it
pub record Going (last : Bool) (s : List ℕ) (b0 b t0 t : List ℕ) (a0 a : Advanced) (k : ℕ) (w : Part) : Type 0 where
  pub part : Part
  pub does : Does b0 b t0 t a0 a part
  pub rest : part then steps k (length t0 - a.written) last s a.used (play_of b a.playing) ≡ w

-- a call that has done nothing yet
abbrev pub fresh : Playing → Advanced
fresh y = record { playing = y; used = 0; records = 0; broken = false; written = 0 }

module _ (last : Bool) (s : List ℕ) where
  pub going_start : (b t : List ℕ) (y : Playing) (k : ℕ) → k ≡ length t
      → Going last s b b t t (fresh y) (fresh y) k (advanced (length t) last s (play_of b y))
  unfolding advanced
  going_start b t y k e = record {
    part = stay (play_of b y);
    does = does_nothing b t (fresh y);
    rest = stay_then (play_of b y) _ ∙ (λ i. steps (e i) (room i) last s 0 (play_of b y));
  }
    where
      room : length t - 0 ≡ length t
      room = omega arith

  module _ (b0 b b1 t0 t t1 : List ℕ) (a0 a a1 : Advanced) (k j : ℕ) (w : Part) (same : length t ≡ length t0)
      (one : k ≡ suc j) (g : Going last s b0 b t0 t a0 a k w)
      (d : Does b b1 t t1 a a1 (step (length t - a.written) last s a.used (play_of b a.playing))) where
    -- this step
    now : Part
    now = step (length t - a.written) last s a.used (play_of b a.playing)

    -- and those behind it
    others : Part
    others = steps j (length t - a.written - length now.written) last s (a.used + now.used) now.play

    this_then : g.part then (now then others) ≡ w
    unfolding now others steps
    this_then =
        sym (λ i. g.part then steps (one i) (sym same i - a.written) last s a.used (play_of b a.playing))
        ∙ g.rest

    pub going_more : Going last s b0 b1 t0 t1 a0 a1 j w
    unfolding now others
    going_more = record {
      part = g.part then now;
      does = does_then b0 b b1 t0 t t1 a0 a a1 _ _ g.does d;
      rest = then_assoc g.part now _
          ∙ (λ i. g.part then (now then steps j (room i) last s (place i) (play_now _ _ _ _ _ _ _ d i)))
          ∙ this_then;
    }
      where
        room : length t0 - a1.written ≡ length t - a.written - length now.written
        room = omega (arith, same, d.puts.next)

        place : a1.used ≡ a.used + now.used
        place = used_more _ _ _ _ _ _ _ d

    -- it wrote nothing: the call is over
    pub going_quiet : a1.written ≤ a.written → Does b0 b1 t0 t1 a0 a1 w
    unfolding now others
    going_quiet quiet =
        let still : now ≡ stay (play_of b a.playing) =
        step_quiet _ last s a.used (play_of b a.playing) (omega (arith, quiet, d.puts.next)) in
        let none-behind = after_quiet last s j _ a.used (play_of b a.playing) now still still in
        does_as _ _ _ _ _ _ _ _ (ap (λ (x : Part). g.part then x) (sym (then_stay now)
        ∙ ap (λ (x : Part). now then x) (sym none-behind)) ∙ this_then)
        (does_then b0 b b1 t0 t t1 a0 a a1 _ _ g.does d)

  -- no step is left
  pub going_over : (b0 b t0 t : List ℕ) (a0 a : Advanced) (k : ℕ) (w : Part) → k ≡ 0
      → Going last s b0 b t0 t a0 a k w → Does b0 b t0 t a0 a w
  unfolding steps
  going_over b0 b t0 t a0 a k w none_left g =
      does_as _ _ _ _ _ _ _ _ (sym (then_stay g.part)
      ∙ ap (λ (y : Play). g.part then stay y) (sym (play_now _ _ _ _ _ _ _ g.does))
      ∙ sym (λ i. g.part then steps (none_left i) (length t0 - a.written) last s a.used (play_of b a.playing))
      ∙ g.rest) g.does

-- what was put at a buffer's front: it stands there, and the bytes behind it are kept
module _ (t t1 : List ℕ) (q : ℕ) (w : List ℕ) (h : Puts t t1 0 q w) (fits : q ≤ length t) where
  long : q ≡ length w
  long = omega (arith, h.next)

  in_front : t1 ≡ w ++ drop (length w) t
  in_front = h.stands ∙ sets-eq w t 0 (omega (arith, long)) ∙ ap (λ (k : ℕ). w ++ drop k t) (zero-add (length w))

  put_front : take q t1 ≡ w
  put_front = (λ i. take (long i) (in_front i)) ∙ take-append_seam w (drop (length w) t)

  kept_behind : drop q t1 ≡ drop q t
  kept_behind = (λ i. drop (long i) (in_front i)) ∙ drop-append_seam w (drop (length w) t)
      ∙ ap (λ (k : ℕ). drop k t) (sym long)

-- what a call has done that had done nothing before
pub all_done : (b b1 t t1 : List ℕ) (y : Playing) (a1 : Advanced) (w : Part) → Does b b1 t t1 (fresh y) a1 w
    → a1.written ≤ length t
    → (part_of b1 a1 (take a1.written t1) ≡ w) × (drop a1.written t1 ≡ drop a1.written t)
unfolding stay
all_done b b1 t t1 y a1 w d fits = (
  ap (part_of b1 a1) (put_front t t1 a1.written w.written d.puts fits) ∙ d.done ∙ stay_then (play_of b y) w,
  kept_behind t t1 a1.written w.written d.puts fits,
)
