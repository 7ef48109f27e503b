-- A drain that is closed as soon as it is open, from what its opening and closing answer. Assumes nothing.
use mathlib.Core.List.{List}
use mathlib.Core.Path.{◌≡◌, refl, sym, ◌∙◌, ap}
use Prim.Native.Nat.{ℕ}
use Rattle.rules.specs.Drains.{Drain}
use Rattle.rules.specs.Journals.{closing}
use Rattle.rules.specs.Outcome.{Answer, Outcome, shut, draining, told, do_close}
use Rattle.rules.specs.Records.{Rec}

closing_shut : (o : Outcome) (r : Rec) → o.answer.state ≡ shut r → closing o ≡ o
unfolding closing
closing_shut o r e = rw e refl

closing_draining : (o : Outcome) (d : Drain) → o.answer.state ≡ draining d → closing o ≡ do_close o.slots d
unfolding closing
closing_draining o d e = rw e refl

-- the opening o told b and its own answer k, which is a in the one form
module _ (o : Outcome) (a k : Answer) (b : List ℕ) (same : a ≡ k) (opens : (k, b) ≡ told o) where
  e : (a, b) ≡ told o
  e = (λ i. (same i, b)) ∙ opens

  -- it was not opened
  pub stays-shut : (r : Rec) → a.state ≡ shut r → (a, b) ≡ told (closing o)
  stays-shut r h =
      e ∙ ap (λ (x : Outcome). told x) (sym (closing_shut o r (ap (λ (x : Answer × List ℕ). x.0.state) (sym e) ∙ h)))

  -- it was opened, and is closed, which told b' and its own answer y, which is p in the one form
  pub opens_closes : (d : Drain) → a.state ≡ draining d → (p y : Answer) (b' : List ℕ) → p ≡ y
      → (y, b') ≡ told (do_close b d) → (p, b') ≡ told (closing o)
  opens_closes d h p y b' is closes =
      (λ i. (is i, b')) ∙ closes
      ∙ ap (λ (x : List ℕ). told (do_close x d)) (ap (λ (x : Answer × List ℕ). x.1) e)
      ∙ ap (λ (x : Outcome). told x)
      (sym (closing_draining o d (ap (λ (x : Answer × List ℕ). x.0.state) (sym e) ∙ h)))
