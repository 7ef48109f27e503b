-- What the code's steps do: one law for each return. Assumes nothing.
use mathlib.Core.Bool.{Bool, true, false}
use mathlib.Core.List.{List, [], ◌++◌}
use mathlib.Core.Path.{◌≡◌, refl, sym, ◌∙◌, ap, subst}
use Prim.Native.Nat.{ℕ, ◌+◌, ◌-◌, ◌≤◌, ◌<◌}
use native.Mathlib.Omega.{arith}
use borrow.Author.Tests.{lt-ltb, le-ltb}
use Rattle.lines.proofs.Puts.{puts_none, puts-append, puts_as}
use Rattle.lines.specs.Puts.{Puts}
use Rattle.plays.proofs.Parts.{same-part, or_false, or_true, then_assoc}
use Rattle.plays.specs.Playing.{Does, Within, part_of, play_of, stage_of}
use Rattle.rules.specs.WholeReplay.{Stage, Play, Part, ◌then◌, stay, break_off, ending, play_record}
use Rattle.plays.specs.Pieces.{begin_last, do_got, next, step}
use Rattle.queue.specs.Answers.{rec_of}
use Rattle.rules.specs.Choices.{whether}
use Rattle.rules.specs.Journals.{Got, Entry, do_entry, record_at, cut, ended}
use Rattle.rules.specs.Outcome.{Answer, told}
use Rattle.rules.specs.Replays.{answer_line, broken_line, rec_or}
use Rattle.plays.specs.declared.playing.Stage.{Stage as CodeStage}
use Rattle.plays.specs.declared.playing.Stage.TheVariants.{Records}
use Rattle.plays.specs.declared.playing.Advanced.{Advanced}
use Rattle.queue.specs.declared.records.Deque.{Deque}

-- what a part adds
module _ (b b1 t t1 : List ℕ) (a a1 : Advanced) (p : Part) (d : Does b b1 t t1 a a1 p) where
  pub used_more : a1.used ≡ a.used + p.used
  unfolding ◌then◌
  used_more = ap (λ (x : Part). x.used) d.done

  pub records_more : a1.records ≡ a.records + p.records
  unfolding ◌then◌
  records_more = ap (λ (x : Part). x.records) d.done

  pub play_now : play_of b1 a1.playing ≡ p.play
  unfolding ◌then◌
  play_now = ap (λ (x : Part). x.play) d.done

  -- nothing of the bytes was used
  within_same : (n m : ℕ) → p.used ≡ 0 → p.records ≡ 0 → Within n m a → a1.written ≤ m → Within n m a1
  within_same n m u k w le = (
    omega (arith, used_more, records_more, w.0),
    omega (arith, used_more, w.1),
    le,
  )

  -- a record was, which ends before q
  pub within_record : (n m q : ℕ) → p.used ≡ q - a.used → p.records ≡ 1 → a.used + 4 ≤ q → q ≤ n → Within n m a
      → a1.written ≤ m → Within n m a1
  within_record n m q u k low high w le = (
    omega (arith, used_more, records_more, w.0),
    omega (arith, used_more, w.1),
    le,
  )

-- one part behind the other
pub does_then : (b b1 b2 t t1 t2 : List ℕ) (a a1 a2 : Advanced) (p q : Part) → Does b b1 t t1 a a1 p
    → Does b1 b2 t1 t2 a1 a2 q → Does b b2 t t2 a a2 (p then q)
unfolding ◌then◌
does_then b b1 b2 t t1 t2 a a1 a2 p q d e = record {
  done = ap (behind p.written) e.done ∙ ap (λ (x : Part). x then q) d.done ∙ then_assoc (part_of b a []) p q;
  puts = puts-append t a.written t1 t2 a1.written a2.written _ _ d.puts e.puts;
}
  where
    -- the same, with more written before it
    behind : List ℕ → Part → Part
    behind w x = record {
      play = x.play;
      used = x.used;
      records = x.records;
      broke = x.broke;
      written = w ++ x.written;
    }

pub does_as : (b b1 t t1 : List ℕ) (a a1 : Advanced) (p q : Part) → p ≡ q → Does b b1 t t1 a a1 p
    → Does b b1 t t1 a a1 q
does_as b b1 t t1 a a1 p q e d = subst (Does b b1 t t1 a a1) e d

-- a return that used nothing of the n bytes, in a buffer of m
pub does_unused : (b b1 t t1 : List ℕ) (a a1 : Advanced) (p q : Part) (n m : ℕ) → p ≡ q → Does b b1 t t1 a a1 p
    → (p.used ≡ 0) × (p.records ≡ 0) → Within n m a → a1.written ≤ m → Does b b1 t t1 a a1 q × Within n m a1
does_unused b b1 t t1 a a1 p q n m e d none w le =
    (does_as b b1 t t1 a a1 p q e d, within_same b b1 t t1 a a1 p d n m none.0 none.1 w le)

module _ (b t : List ℕ) (before : Advanced) where
  pub does_nothing : Does b b t t before before (stay (play_of b before.playing))
  unfolding ◌then◌ stay
  does_nothing = record {
    done = same-part _ _ refl (omega arith) (omega arith) (sym (or_false before.broken)) refl;
    puts = puts_none t before.written;
  }

  -- the line of a record that is broken
  pub does_break : (t1 : List ℕ) (u n w : ℕ) → u ≡ before.used → n ≡ before.records
      → Puts t t1 before.written w (broken_line (rec_of before.playing.queue))
      → Does b b t t1 before (record {
        playing = before.playing;
        used = u;
        records = n;
        broken = true;
        written = w;
      }) (break_off (play_of b before.playing))
  unfolding ◌then◌ break_off
  does_break t1 u n w at-u at_n h = record {
    done = same-part _ _ refl (omega (arith, at-u)) (omega (arith, at_n)) (sym (or_true before.broken)) refl;
    puts = h;
  }

  -- a word of the last line
  pub does_ending : (t1 : List ℕ) (g : CodeStage) (l : List ℕ) (u n w : ℕ) → u ≡ before.used → n ≡ before.records
      → Puts t t1 before.written w l
      → Does b b t t1 before (record {
        playing = record { queue = before.playing.queue; stage = g };
        used = u;
        records = n;
        broken = before.broken;
        written = w;
      }) (ending (play_of b before.playing) (stage_of g) l)
  unfolding ◌then◌ ending
  does_ending t1 g l u n w at-u at_n h = record {
    done = same-part _ _ refl (omega (arith, at-u)) (omega (arith, at_n)) (sym (or_false before.broken)) refl;
    puts = h;
  }

  -- a record's operation, and its line
  pub does_record : (b1 t1 : List ℕ) (q : Deque) (e : Entry) (x : Answer) (u n w : ℕ) → before.used ≤ u
      → n ≡ before.records + 1 → (x, b1) ≡ told (do_entry b (rec_of before.playing.queue) e)
      → rec_of q ≡ rec_or (rec_of before.playing.queue) x.state
      → Puts t t1 before.written w (answer_line (rec_of before.playing.queue) e x)
      → Does b b1 t t1 before (record {
        playing = record { queue = q; stage = Records };
        used = u;
        records = n;
        broken = before.broken;
        written = w;
      }) (play_record (play_of b before.playing) e (u - before.used))
  unfolding ◌then◌ play_record
  does_record b1 t1 q e x u n w le at_n at_x at-q h =
      let r = rec_of before.playing.queue in
      let is : x ≡ (do_entry b r e).answer = ap (λ (o : Answer × List ℕ). o.0) at_x in
      record {
        done = same-part _ _
            (λ i. record {
              slots = (at_x i).1;
              queue = (at-q ∙ ap (λ (a : Answer). rec_or r a.state) is) i;
              stage = stage_of Records;
            }) (omega arith) (omega (arith, at_n)) (sym (or_false before.broken)) refl;
        puts = puts_as t before.written t1 w _ _ (ap (answer_line r e) is) h;
      }

-- ---- what the parts use

pub begins_unused : (y : Play) → ((begin_last y).used ≡ 0) × ((begin_last y).records ≡ 0)
unfolding begin_last ending
begins_unused y = (refl, refl)

pub breaks_unused : (y : Play) → ((break_off y then begin_last y).used ≡ 0) × ((break_off y then begin_last y).records ≡
    0)
unfolding begin_last ending break_off ◌then◌
breaks_unused y = (refl, refl)

pub plays_one : (y : Play) (e : Entry) (n : ℕ) → ((play_record y e n).used ≡ n) × ((play_record y e n).records ≡ 1)
unfolding play_record
plays_one y e n = (refl, refl)

-- ---- which step it is

-- by what the code's record says of a position
pub at_got : (last : Bool) (s : List ℕ) (p : ℕ) (y : Play) (g : Got) → g ≡ record_at s p
    → do_got last p y g ≡ do_got last p y (record_at s p)
at_got last s p y g e = ap (do_got last p y) e

-- a record cut short, and the end of the bytes: the last line is begun, or more bytes are waited for
module _ (p : ℕ) (y : Play) where
  pub cut_off : (last : Bool) → last ≡ true → break_off y then begin_last y ≡ do_got last p y cut
  unfolding do_got whether
  cut_off last e = rw e

  pub cut_waits : (last : Bool) → last ≡ false → stay y ≡ do_got last p y cut
  unfolding do_got whether
  cut_waits last e = rw e

  pub end_told : (last : Bool) → last ≡ true → begin_last y ≡ do_got last p y ended
  unfolding do_got whether
  end_told last e = rw e

  pub end_waits : (last : Bool) → last ≡ false → stay y ≡ do_got last p y ended
  unfolding do_got whether
  end_waits last e = rw e

-- ---- whether there is a step

module _ (m : ℕ) (last : Bool) (s : List ℕ) (p : ℕ) (y : Play) where
  pub no_room : m < 105 → stay y ≡ step m last s p y
  unfolding step whether
  no_room lt = rw (lt-ltb m 105 lt)

  pub goes : 105 ≤ m → (g : Stage) → y.stage ≡ g → next last s p y g ≡ step m last s p y
  unfolding step whether
  goes room g e = rw (le-ltb m 105 room) (ap (next last s p y) (sym e))
