-- What `retain` does: one law for each return. Assumes nothing.
use mathlib.Core.List.{List, ◌++◌, [], append-nil}
use mathlib.Core.Logic.{◌≢◌}
use mathlib.Core.Option.{none}
use mathlib.Core.Path.{◌≡◌, ap, ◌∙◌, refl, sym}
use Prim.Native.Nat.{ℕ, suc, ◌≤◌, ◌-◌, ◌<◌, ◌+◌}
use native.Mathlib.Omega.{arith}
use Rattle.std.specs.List.{prefix_len}
use lib.ListN.{length, take, drop, drop_of_length-le, length-append}
use lib.Seq.{take_all}
use Rattle.queue.proofs.Checks.{fine_change}
use Rattle.retains.proofs.Keeps.{those_split, behind_split}
use Rattle.retains.proofs.Stages.{leading_upto}
use Rattle.rules.proofs.Held.{length-held}
use Rattle.rules.proofs.Places.{place-place}
use Rattle.rules.proofs.Ring.{write-behind}
use Rattle.rules.proofs.Slots.{length_list_of, list_of_drop, list_of_take}
use Rattle.rules.proofs.Told.{accepts_same, accepts}
use Rattle.rules.specs.Conditions.{Test, meets, those, behind}
use Rattle.rules.specs.Middle.{retain}
use Rattle.rules.specs.Outcome.{shut, told, do_rule}
use Rattle.rules.specs.Places.{place}
use Rattle.rules.specs.Records.{Rec, held, stepped}
use Rattle.rules.specs.Refusals.{on_change}
use Rattle.rules.specs.Slots.{list_of, lay}

module _ (b : List ℕ) (r : Rec) (first : on_change (length b) r 0 ≡ 0) (t : Test) (k : ℕ)
    (at-k : k ≡ prefix_len (meets t) (held b r)) where
  l : List ℕ
  l = held b r

  many : length l ≡ r.len
  unfolding l
  many = length-held b r

  split : those (meets t) l ≡ take k l ++ those (meets t) (drop (suc k) l)
  unfolding l
  split = rw at-k (those_split (meets t) l)

  later : behind (meets t) l ≡ those (meets t) (drop (suc k) l)
  unfolding l
  later = rw at-k (behind_split (meets t) l)

  kept_upto : k ≤ r.len
  kept_upto = leading_upto (meets t) b r k at-k

  -- none was rejected
  module _ (all : k ≡ r.len) where
    past : those (meets t) (drop (suc k) l) ≡ []
    unfolding those
    past = ap (those (meets t)) (drop_of_length-le l {i = suc k} (omega (arith, many)))

    whole : those (meets t) l ≡ l
    whole = split ∙ ap (λ (m : List ℕ). take k l ++ m) past ∙ append-nil _ ∙ take_all k l (omega (arith, many))

    pub retained_all : (record { refused = 0; moved = 0; state = shut r; handed = none }, b)
        ≡ told (do_rule b r (retain t))
    unfolding retain held l
    retained_all = accepts_same b r (retain t) first refl refl (ap length whole ∙ many) (ap length (later ∙ past)) refl
        whole

  -- those that were kept behind the first rejected one were moved down
  module _ (some : k ≢ r.len) (p m : ℕ) (at_p : p ≡ place (length b) r.head k) where
    abbrev rest : List ℕ
    rest = list_of b (place (length b) p 1) (r.len - k - 1)

    behind_first : drop (suc k) l ≡ rest
    unfolding l held
    behind_first =
        let g = (fine_change b r first).good in
        let low : r.head < length b = omega (arith, kept_upto) in
        let one : suc k ≡ k + 1 = omega arith in
        let next : place (length b) r.head (k + 1) ≡ place (length b) p 1 =
        sym (ap (λ (i : ℕ). place (length b) i 1) at_p
        ∙ place-place (length b) r.head low k 1 (omega (arith, kept_upto))) in
        ap (λ (j : ℕ). drop j l) one
        ∙ list_of_drop b r.head low (k + 1) r.len (omega (arith, kept_upto)) g.fits
        ∙ ap (λ (i : ℕ). list_of b i (r.len - (k + 1))) next
        ∙ ap (list_of b (place (length b) p 1)) (omega arith)

    pub retained : (r' : Rec) (b' : List ℕ) → m ≡ length (those (meets t) rest) → b' ≡ lay b p (those (meets t) rest)
        → r' ≡ stepped r r.head (k + m)
        → (record { refused = 0; moved = m; state = shut r'; handed = none }, b') ≡ told (do_rule b r (retain t))
    unfolding retain held l
    retained r' b' at-m at_b' made =
        let g = (fine_change b r first).good in
        let low : r.head < length b = omega (arith, kept_upto) in
        let kept : those (meets t) l ≡ list_of b r.head k ++ those (meets t) rest =
        split ∙ (λ i. list_of_take b r.head low k r.len kept_upto g.fits i ++ those (meets t) (behind_first i))
        in
        let long : k + m ≡ length (those (meets t) l) =
        omega (
          arith,
          at-m,
          ap length kept
              ∙ length-append (list_of b r.head k) (those (meets t) rest),
          length_list_of b r.head k,
        ) in
        let slots : b' ≡ lay b r.head (those (meets t) l) =
        at_b'
        ∙ ap (λ (i : ℕ). lay b i (those (meets t) rest)) at_p
        ∙ sym (ap (lay b r.head) kept
        ∙ write-behind (length b) b r.head k (those (meets t) rest) low (omega (arith, kept_upto, g.fits))) in
        accepts b r (retain t) first refl m r.head (k + m) r' none b' made refl long
        (at-m ∙ sym (ap length (later ∙ ap (those (meets t)) behind_first))) refl slots
