-- What image writing tells. Assumes nothing.
use Rattle.std.specs.Prelude.{List, ℕ}
use Rattle.rules.specs.Images.{write_count, written}
use Rattle.rules.specs.Looks.{Look}
use Rattle.rules.specs.Records.{Rec}

-- what the caller of image writing sees: the answer, and the target
abbrev pub told_writing : List ℕ → Rec → List ℕ → Look ℕ × List ℕ
told_writing b r t = (write_count b r t, written b r t)
