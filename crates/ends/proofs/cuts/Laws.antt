-- What the cuts do: one law for each return. Assumes nothing.
use Rattle.std.proofs.Common.{◌≡◌, ℕ, ◌-◌, ◌<◌, ◌≤◌, List, length, sym, refl, ap, ◌∙◌, arith, take_all, le-leb}
use mathlib.Core.Option.{none}
use borrow.Author.Tests.{lt-leb}
use Rattle.queue.proofs.Checks.{fine_change}
use Rattle.rules.proofs.Slots.{length_list_of, list_of_take, lay-own, list_of_drop, lay_none}
use Rattle.rules.proofs.Told.{accepts_same, accepts}
use Rattle.rules.specs.Ends.{truncate, truncate_front, clear}
use Rattle.rules.specs.Outcome.{shut, told, do_rule}
use Rattle.rules.specs.Places.{place}
use Rattle.rules.specs.Records.{Rec, held, stepped}
use Rattle.rules.specs.Refusals.{on_change}
use Rattle.rules.specs.Slots.{list_of, lay}
use Rattle.rules.specs.Choices.{whether}

module _ (b : List ℕ) (r : Rec) (first : on_change (length b) r 0 ≡ 0) where
  -- as many as there are, or more
  pub all_kept : (k : ℕ) → r.len ≤ k
      → (record { refused = 0; moved = 0; state = shut r; handed = none }, b) ≡ told (do_rule b r (truncate k))
  unfolding truncate held
  all_kept k le =
      accepts_same b r (truncate k) first refl refl (omega arith) refl refl
      (take_all k (list_of b r.head r.len) (omega (arith, length_list_of b r.head r.len)))

  pub front_kept : (k : ℕ) → r.len ≤ k
      → (record { refused = 0; moved = 0; state = shut r; handed = none }, b) ≡ told (do_rule b r (truncate_front k))
  unfolding truncate_front held whether
  front_kept k le =
      let no_one : length (list_of b r.head r.len) - k ≡ 0 = omega (arith, length_list_of b r.head r.len) in
      accepts_same b r (truncate_front k) first refl (rw (le-leb r.len k le)) (omega arith) refl refl (rw no_one)

  -- the first k stand where they stood
  pub back_cut : (k : ℕ) (r' : Rec) → k < r.len → r' ≡ stepped r r.head k
      → (record { refused = 0; moved = 0; state = shut r'; handed = none }, b) ≡ told (do_rule b r (truncate k))
  unfolding truncate held
  back_cut k r' lt made =
      let g = (fine_change b r first).good in
      let h = r.head in
      accepts b r (truncate k) first refl 0 h k r' none b made refl (omega arith) refl refl
      (sym (ap (lay b h) (list_of_take b h (omega arith) k r.len (omega arith) g.fits) ∙ lay-own b h k))

  -- head steps on to the first that is kept
  pub front_cut : (k p : ℕ) (r' : Rec) → k < r.len → p ≡ place (length b) r.head (r.len - k) → r' ≡ stepped r p k
      → (record { refused = 0; moved = 0; state = shut r'; handed = none }, b) ≡ told (do_rule b r (truncate_front k))
  unfolding truncate_front held whether
  front_cut k p r' lt at_p made =
      let g = (fine_change b r first).good in
      let h = r.head in
      let n = r.len in
      accepts b r (truncate_front k) first refl 0 p k r' none b made (at_p ∙ sym (rw (lt-leb n k lt))) (omega arith)
      refl refl
      (rw (at_p, length_list_of) (sym
      (ap (lay b (place (length b) h (n - k))) (list_of_drop b h (omega arith) (n - k) n (omega arith) g.fits)
      ∙ lay-own b (place (length b) h (n - k)) (n - (n - k)))))

  -- none is kept, and the next one will stand in the first slot
  pub cleared : (p : ℕ) (r' : Rec) → p ≡ 0 → r' ≡ stepped r p 0
      → (record { refused = 0; moved = 0; state = shut r'; handed = none }, b) ≡ told (do_rule b r clear)
  unfolding clear
  cleared p r' at_p made = accepts b r clear first refl 0 p 0 r' none b made at_p refl refl refl (sym (lay_none b p))
