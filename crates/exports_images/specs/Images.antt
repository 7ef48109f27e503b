-- Image writing, as a caller from C gets it. Assumes nothing.
use Rattle.std.specs.Prelude.{List, ℕ}
use Rattle.replies.specs.InC.{count_in_c}
use Rattle.rules.specs.Images.{write_count, written}
use Rattle.rules.specs.Records.{Rec}

-- the count or the refusal number, and the target
abbrev pub writing_told_in_c : List ℕ → Rec → List ℕ → (ℕ × ℕ) × List ℕ
writing_told_in_c b r t = (count_in_c (write_count b r t), written b r t)
