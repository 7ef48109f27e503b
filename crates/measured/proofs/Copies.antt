-- The straight copy alone, refused and made. Assumes nothing.
use Rattle.std.proofs.Common.{◌≡◌, sym, List, ℕ, length}
use Rattle.queue.proofs.Numbers.{some_number}
use Rattle.queue.specs.Answers.{number_of}
use Rattle.queue.specs.declared.refusals.Refusal.{Refusal}
use Rattle.rules.proofs.Choices.{unless-stop}
use Rattle.rules.specs.Choices.{unless}
use Rattle.measured.specs.Copies.{on_copy, copied_times, copy_told}

module _ (b : List ℕ) (s d n t : ℕ) where
  -- the tests gave x: the slots are as they were
  pub refused : (x : Refusal) → number_of x ≡ on_copy (length b) s d n → (number_of x, b) ≡ copy_told b s d n t
  unfolding copy_told
  refused x e = rw (sym e, unless-stop (number_of x) (copied_times t b s d n) b (some_number x))

  -- they passed: the copies were asked for the places of s and d
  pub all_copied : (x y : ℕ) (b' : List ℕ) → x ≡ s → y ≡ d → b' ≡ copied_times t b x y n
      → 0 ≡ on_copy (length b) s d n → (0, b') ≡ copy_told b s d n t
  unfolding copy_told unless
  all_copied x y b' from to is e = rw (sym e, ← from, ← to, is)
