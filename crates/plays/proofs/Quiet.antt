-- Steps that write: a step that writes nothing changes nothing, and those behind it
-- neither; where no more bytes come each step writes, until the last line is ended. Assumes nothing.
use mathlib.Core.Bool.{Bool, true}
use mathlib.Core.List.{List, [], ◌∷◌, ◌++◌}
use mathlib.Core.Logic.{◌≢◌}
use mathlib.Core.Option.{Option, none, some}
use mathlib.Core.Path.{◌≡◌, refl, sym, ◌∙◌, ap, subst}
use Prim.Native.Nat.{ℕ, zero, suc, ◌+◌, ◌-◌, ◌≤◌}
use native.Mathlib.Omega.{arith}
use borrow.Author.Tests.{le-ltb}
use lib.Dec.{ltb}
use lib.ListN.{length, get_elem?, length-append}
use Rattle.plays.proofs.Parts.{stay_then}
use Rattle.plays.specs.Pieces.{begin_last, do_got, word_of, next, step, steps, longest_line, advanced}
use Rattle.rules.proofs.Choices.{by_test}
use Rattle.rules.specs.Choices.{whether}
use Rattle.rules.specs.Journals.{Entry, do_entry, Got, taken, broken, cut, ended, record_at}
use Rattle.rules.specs.Outcome.{Answer}
use Rattle.rules.specs.Records.{Rec}
use Rattle.rules.specs.Replays.{line_of, answer_line, broken_line, spaced, newline}
use Rattle.rules.specs.WholeReplay.{Stage, in_records, in_elements, over, Play, Part, ◌then◌, stay, break_off, ending, play_record, elements, end_word}

-- ---- a step that writes nothing

abbrev Quiet : Play → Part → Type 0
Quiet y a = length a.written ≡ 0 → a ≡ stay y

line_some : (w : List ℕ) (ws : List (List ℕ)) → 1 ≤ length (line_of w ws)
unfolding line_of
line_some w ws = omega (
  arith,
  length-append w (spaced ws ++ newline ∷ []),
  length-append (spaced ws) (newline ∷ []),
)

answer_some : (r : Rec) (e : Entry) (x : Answer) → 1 ≤ length (answer_line r e x)
unfolding answer_line
answer_some r e x = line_some _ _

got_quiet : (last : Bool) (p : ℕ) (y : Play) (g : Got) → Quiet y (do_got last p y g)
unfolding do_got play_record break_off begin_last ending ◌then◌
got_quiet last p y (taken e q) z = absurd (omega (
  arith,
  answer_some y.queue e (do_entry y.slots y.queue e
      ).answer,
))
got_quiet last p y broken z = absurd (omega (arith, length-append (broken_line y.queue) end_word))
got_quiet last p y cut z =
    by_test last (Quiet y) (λ t z. absurd (omega (arith, length-append (broken_line y.queue) end_word))) (λ t z. refl)
    z
got_quiet last p y ended z = by_test last (Quiet y) (λ t z. absurd (omega arith)) (λ t z. refl) z

word_quiet : (y : Play) (i : ℕ) (o : Option ℕ) → Quiet y (word_of y i o)
unfolding word_of ending
word_quiet y i none z = absurd (omega arith)
word_quiet y i (some v) z = absurd (omega arith)

next_quiet : (last : Bool) (s : List ℕ) (p : ℕ) (y : Play) (g : Stage) → Quiet y (next last s p y g)
unfolding next
next_quiet last s p y in_records z = got_quiet last p y (record_at s p) z
next_quiet last s p y (in_elements i) z = word_quiet y i (get_elem? (elements y.slots y.queue) i) z
next_quiet last s p y over z = refl

pub step_quiet : (m : ℕ) (last : Bool) (s : List ℕ) (p : ℕ) (y : Play) → Quiet y (step m last s p y)
unfolding step
step_quiet m last s p y z =
    by_test (ltb m longest_line) (Quiet y) (λ t z. refl) (λ t z. next_quiet last s p y y.stage z) z

-- ---- no more bytes come: each step writes, until the last line is ended

got_writes : (p : ℕ) (y : Play) (g : Got) → 1 ≤ length (do_got true p y g).written
unfolding do_got play_record break_off begin_last ending ◌then◌ whether
got_writes p y (taken e q) = answer_some y.queue e (do_entry y.slots y.queue e).answer
got_writes p y broken = omega (arith, length-append (broken_line y.queue) end_word)
got_writes p y cut = omega (arith, length-append (broken_line y.queue) end_word)
got_writes p y ended = omega arith

word_writes : (y : Play) (i : ℕ) (o : Option ℕ) → 1 ≤ length (word_of y i o).written
unfolding word_of ending
word_writes y i none = omega arith
word_writes y i (some v) = omega arith

next_writes : (s : List ℕ) (p : ℕ) (y : Play) (g : Stage) → g ≢ over → 1 ≤ length (next true s p y g).written
unfolding next
next_writes s p y in_records ne = got_writes p y (record_at s p)
next_writes s p y (in_elements i) ne = word_writes y i (get_elem? (elements y.slots y.queue) i)
next_writes s p y over ne = absurd (ne refl)

step_writes : (m : ℕ) (s : List ℕ) (p : ℕ) (y : Play) → longest_line ≤ m → y.stage ≢ over
    → 1 ≤ length (step m true s p y).written
unfolding step whether
step_writes m s p y room ne = rw (le-ltb m longest_line room) (next_writes s p y y.stage ne)

then_writes : (a b : Part) → 1 ≤ length a.written → 1 ≤ length (a then b).written
unfolding ◌then◌
then_writes a b h = omega (arith, h, length-append a.written b.written)

pub call_writes : (m : ℕ) (s : List ℕ) (y : Play) → longest_line ≤ m → y.stage ≢ over
    → 1 ≤ length (advanced m true s y).written
unfolding advanced steps
call_writes zero s y room ne = absurd (omega arith)
call_writes (suc k) s y room ne = then_writes (step (suc k) true s 0 y) _ (step_writes (suc k) s 0 y room ne)

-- ---- many steps

module _ (last : Bool) (s : List ℕ) where
  -- nothing used and nothing written
  same-steps : (k m p : ℕ) (y : Play) → steps k (m - 0) last s (p + 0) y ≡ steps k m last s p y
  same-steps k m p y i = steps k (room i) last s (place i) y
    where
      room : m - 0 ≡ m
      room = omega arith

      place : p + 0 ≡ p
      place = omega arith

  -- one that writes nothing is the last
  steps_quiet : (k m p : ℕ) (y : Play) → step m last s p y ≡ stay y → steps k m last s p y ≡ stay y
  unfolding steps stay
  steps_quiet zero m p y e = refl
  steps_quiet (suc k) m p y e =
      ap (λ (t : Part). t then steps k (m - length t.written) last s (p + t.used) t.play) e ∙ stay_then y _
      ∙ same-steps k m p y ∙ steps_quiet k m p y e

  -- so that nothing comes behind it
  pub after_quiet : (j m p : ℕ) (y : Play) (t : Part) → t ≡ stay y → step m last s p y ≡ stay y
      → steps j (m - length t.written) last s (p + t.used) t.play ≡ stay t.play
  unfolding stay
  after_quiet j m p y t e quiet =
      subst (λ (x : Part). steps j (m - length x.written) last s (p + x.used) x.play ≡ stay x.play) (sym e)
      (same-steps j m p y ∙ steps_quiet j m p y quiet)
