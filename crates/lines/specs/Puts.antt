-- Bytes put into a lent buffer. Assumes nothing.
use Rattle.std.specs.Prelude.{List, ◌∷◌, [], ◌++◌, ◌≡◌, ℕ, ◌+◌, length}
use Rattle.std.proofs.lemmas.List.Edits.{sets}
use Rattle.rules.specs.Records.{Rec}
use Rattle.rules.specs.Replays.{decimal, spaced}

-- the buffer t has become t': s stands in it from position p on, up to q, and the other bytes are kept
pub record Puts (t t' : List ℕ) (p q : ℕ) (s : List ℕ) : Type 0 where
  pub stands : t' ≡ sets t p s
  pub next : q ≡ p + length s

-- refusal, moved, head and len, parted by one space
unfoldable pub four_numbers : ℕ → ℕ → Rec → List ℕ
four_numbers n m r = decimal n ++ spaced (decimal m ∷ decimal r.head ∷ decimal r.len ∷ [])
