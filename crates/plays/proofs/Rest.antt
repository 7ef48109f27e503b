-- What is still to be done of a replay, and that each step leaves it the same: what was
-- written, and then the rest. Assumes nothing.
use mathlib.Core.Bool.{Bool}
use mathlib.Core.List.{List, [], ◌∷◌, ◌++◌, map, append_assoc, append-nil}
use mathlib.Core.Option.{Option, none, some}
use mathlib.Core.Path.{◌≡◌, refl, sym, ◌∙◌, ap}
use Prim.Native.Nat.{ℕ, zero, suc, ◌+◌, ◌-◌, ◌≤◌}
use native.Mathlib.Omega.{arith}
use lib.Dec.{T, ltb}
use lib.ListN.{length, drop, get_elem?, length-drop}
use lib.Seq.{drop-append-le}
use Rattle.plays.proofs.Elements.{word_uses}
use Rattle.plays.proofs.Parts.{then_assoc, stay_then}
use Rattle.plays.proofs.Records.{Ends, record_ends, Settles, settles}
use Rattle.plays.proofs.Whole.{from, enough, shifted, replays_here}
use Rattle.plays.specs.Pieces.{begin_last, do_got, word_of, next, step, steps, longest_line, advanced}
use Rattle.rules.specs.WholeReplay.{Stage, in_records, in_elements, over, Play, Part, ◌then◌, stay, break_off, ending, play_record, last_line, replayed, elements, end_line}
use Rattle.rules.proofs.Choices.{by_test}
use Rattle.rules.specs.Journals.{Entry, Got, taken, broken, cut, ended, record_at}
use Rattle.rules.specs.Replays.{decimal, line_of, newline, space, spaced}

-- the elements l of the last line, and its end
abbrev last_words : List ℕ → List ℕ
last_words l = spaced (map decimal l) ++ newline ∷ []

-- at a stage
abbrev pub rest_at : List ℕ → ℕ → Play → Stage → Part
rest_at s p y in_records = replayed (length s) s p y
rest_at s p y (in_elements i) = ending y over (last_words (drop i (elements y.slots y.queue)))
rest_at s p y over = stay y

-- for the bytes s from position p on, from where a replay stands
abbrev pub rest : List ℕ → ℕ → Play → Part
rest s p y = rest_at s p y y.stage

-- the first of the elements that are left
abbrev First : List ℕ → ℕ → Option ℕ → Type 0
First l i none = drop i l ≡ []
First l i (some v) = drop i l ≡ v ∷ drop (i + 1) l

first_left : (l : List ℕ) (i : ℕ) → First l i (get_elem? l i)
first_left [] zero = refl
first_left [] (suc i) = refl
first_left (v ∷ l) zero = refl
first_left (v ∷ l) (suc i) = at (get_elem? l i) (first_left l i)
  where
    at : (o : Option ℕ) → First l i o → First (v ∷ l) (suc i) o
    at none e = e
    at (some w) e = e ∙ ap (λ (k : ℕ). w ∷ drop k (v ∷ l)) one
      where
        one : suc (i + 1) ≡ suc i + 1
        one = omega arith

-- ---- each step leaves the rest

-- what a part leaves: it, and then the rest from where it stands
abbrev Leaves : List ℕ → ℕ → Play → Part → Type 0
Leaves s p y a = rest s p y ≡ a then rest s (p + a.used) a.play

leaves_all : (s : List ℕ) (p : ℕ) (y : Play) → Leaves s p y (stay y)
unfolding stay
leaves_all s p y = sym (stay_then y _ ∙ ap (λ (k : ℕ). rest s k y) same)
  where
    same : p + 0 ≡ p
    same = omega arith

-- the last line, begun and ended
begins_last : (s : List ℕ) (p : ℕ) (y : Play)
    → last_line y ≡ begin_last y then rest s (p + (begin_last y).used) (begin_last y).play
unfolding last_line begin_last ending end_line line_of ◌then◌
begins_last s p y = refl

module _ (s : List ℕ) (p : ℕ) (y : Play) (i : ℕ) where
  word_leaves : (o : Option ℕ) → First (elements y.slots y.queue) i o
      → rest_at s p y (in_elements i) ≡ word_of y i o then rest s (p + (word_of y i o).used) (word_of y i o).play
  unfolding word_of ending stay ◌then◌ spaced
  word_leaves none e = ap (λ (l : List ℕ). ending y over (last_words l)) e
  word_leaves (some v) e = ap (λ (l : List ℕ). ending y over (last_words l)) e
      ∙ ap (λ (w : List ℕ). ending y over (space ∷ w))
      (append_assoc (decimal v) (spaced (map decimal (drop (i + 1) (elements y.slots y.queue)))) (newline ∷ []))

-- in the records: g stands at the position in a piece, and in the whole where it is settled or no more bytes come
module _ (last : Bool) (s : List ℕ) (p : ℕ) (y : Play) (here : y.stage ≡ in_records) where
  as_from : (g : Got) → g ≡ record_at s p → rest s p y ≡ from p y (replayed (length s) s) g
  as_from g e = ap (rest_at s p y) here ∙ replays_here s p y ∙ ap (from p y (replayed (length s) s)) (sym e)

  break_leaves : rest s p y ≡ break_off y then last_line y → Leaves s p y (break_off y then begin_last y)
  unfolding begin_last ending ◌then◌
  break_leaves e =
      e ∙ ap (λ (x : Part). break_off y then x) (begins_last s p y) ∙ sym (then_assoc (break_off y) (begin_last y) _)

  end_leaves : rest s p y ≡ last_line y → Leaves s p y (begin_last y)
  end_leaves e = e ∙ begins_last s p y

  take_leaves : (e : Entry) (q : ℕ) → p + 4 ≤ q
      → play_record y e (q - p) then replayed (length s) s q (play_record y e (q - p)).play
      ≡ play_record y e (q - p) then rest s (p + (play_record y e (q - p)).used) (play_record y e (q - p)).play
  unfolding play_record
  take_leaves e q le =
      ap (λ (k : ℕ). play_record y e (q - p) then replayed (length s) s k (play_record y e (q - p)).play) on
    where
      on : q ≡ p + (q - p)
      on = omega arith

  got_leaves : (n : ℕ) (g : Got) → Settles g (record_at s p) → (T last → g ≡ record_at s p) → Ends p n g
      → Leaves s p y (do_got last p y g)
  unfolding do_got
  got_leaves n (taken e q) h k w = as_from (taken e q) h ∙ take_leaves e q w.0
  got_leaves n broken h k w = break_leaves (as_from broken h)
  got_leaves n cut h k w =
      by_test last (Leaves s p y) (λ z. break_leaves (as_from cut (k z))) (λ z. leaves_all s p y)
  got_leaves n ended h k w =
      by_test last (Leaves s p y) (λ z. end_leaves (as_from ended (k z))) (λ z. leaves_all s p y)

-- ---- pieces: s are the bytes of one, and t those that come behind it, none where it is the last

module _ (last : Bool) (s t : List ℕ) (no_more : T last → t ≡ []) where
  next_leaves : (p : ℕ) (y : Play) (g : Stage) → y.stage ≡ g → Leaves (s ++ t) p y (next last s p y g)
  unfolding next
  next_leaves p y in_records e =
      got_leaves last (s ++ t) p y e (length s) (record_at s p) (settles s t p)
      (λ z. ap (λ (l : List ℕ). record_at l p) (sym (append-nil s) ∙ ap (λ (l : List ℕ). s ++ l) (sym (no_more z))))
      (record_ends s p)
  next_leaves p y (in_elements i) e =
      ap (rest_at (s ++ t) p y) e
      ∙ word_leaves (s ++ t) p y i (get_elem? (elements y.slots y.queue) i)
      (first_left (elements y.slots y.queue) i)
  next_leaves p y over e = leaves_all (s ++ t) p y

  step_leaves : (m p : ℕ) (y : Play) → Leaves (s ++ t) p y (step m last s p y)
  unfolding step
  step_leaves m p y =
      by_test (ltb m longest_line) (Leaves (s ++ t) p y) (λ z. leaves_all (s ++ t) p y)
      (λ z. next_leaves p y y.stage refl)

  steps_leave : (k m p : ℕ) (y : Play) → Leaves (s ++ t) p y (steps k m last s p y)
  unfolding steps ◌then◌
  steps_leave zero m p y = leaves_all (s ++ t) p y
  steps_leave (suc k) m p y =
      let a = step m last s p y in
      let o = steps k (m - length a.written) last s (p + a.used) a.play in
      step_leaves m p y
      ∙ ap (λ (x : Part). a then x) (steps_leave k (m - length a.written) (p + a.used) a.play)
      ∙ sym (then_assoc a o _) ∙ ap (λ (j : ℕ). (a then o) then rest (s ++ t) j o.play) (omega arith)

-- ---- a piece's bytes are enough

got_within : (last : Bool) (n p : ℕ) (y : Play) (g : Got) → p ≤ n → Ends p n g → p + (do_got last p y g).used ≤ n
unfolding do_got play_record break_off begin_last ending stay ◌then◌
got_within last n p y (taken e q) le h = omega (arith, h.0, h.1)
got_within last n p y broken le h = omega arith
got_within last n p y cut le h = by_test last (λ (a : Part). p + a.used ≤ n) (λ z. omega arith) (λ z. omega arith)
got_within last n p y ended le h = by_test last (λ (a : Part). p + a.used ≤ n) (λ z. omega arith) (λ z. omega arith)

module _ (last : Bool) (s : List ℕ) where
  next_within : (p : ℕ) (y : Play) (g : Stage) → p ≤ length s → p + (next last s p y g).used ≤ length s
  unfolding next stay
  next_within p y in_records le = got_within last (length s) p y (record_at s p) le (record_ends s p)
  next_within p y (in_elements i) le =
      omega (arith, (word_uses y i (get_elem? (elements y.slots y.queue) i)).0)
  next_within p y over le = omega arith

  step_within : (m p : ℕ) (y : Play) → p ≤ length s → p + (step m last s p y).used ≤ length s
  unfolding step stay
  step_within m p y le =
      by_test (ltb m longest_line) (λ (a : Part). p + a.used ≤ length s) (λ z. omega arith)
      (λ z. next_within p y y.stage le)

  steps_within : (k m p : ℕ) (y : Play) → p ≤ length s → p + (steps k m last s p y).used ≤ length s
  unfolding steps stay ◌then◌
  steps_within zero m p y le = omega arith
  steps_within (suc k) m p y le =
      let a = step m last s p y in
      let h = steps_within k (m - length a.written) (p + a.used) a.play (step_within m p y le) in
      omega (arith, h)

-- ---- a call, and the pieces that are left

-- the rest from a position on is that of the bytes from there
rest_of : (s : List ℕ) (u : ℕ) (y : Play) (g : Stage) → rest_at s u y g ≡ rest_at (drop u s) 0 y g
rest_of s u y in_records =
    enough (length s) (length (drop u s)) s u y (omega arith) (omega (arith, length-drop u s))
    ∙ ap (λ (k : ℕ). replayed (length (drop u s)) s k y) same ∙ sym (shifted (length (drop u s)) s u 0 y)
  where
    same : u ≡ u + 0
    same = omega arith
rest_of s u y (in_elements i) = refl
rest_of s u y over = refl

pub call_leaves : (last : Bool) (s t : List ℕ) → (T last → t ≡ []) → (m : ℕ) (y : Play)
    → let a = advanced m last s y in
    rest (s ++ t) 0 y ≡ a then rest (drop a.used s ++ t) 0 a.play
unfolding advanced
call_leaves last s t no_more m y =
    let a = steps m m last s 0 y in
    let low : a.used ≤ length s = omega (arith, steps_within last s m m 0 y (omega arith)) in
    steps_leave last s t no_more m m 0 y
    ∙ ap (λ (x : Part). a then x) (ap (λ (j : ℕ). rest (s ++ t) j a.play) (omega arith)
    ∙ rest_of (s ++ t) a.used a.play a.play.stage
    ∙ ap (λ (l : List ℕ). rest l 0 a.play) (drop-append-le a.used s t low))
