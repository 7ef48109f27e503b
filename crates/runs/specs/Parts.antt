-- Parts of lent slots: that they are, and where they stand. Assumes nothing.
use Rattle.std.specs.Prelude.{List, ℕ, ◌*◌, ◌+◌, ◌≤◌}
use Rattle.std.specs.Borrow.{Bor}
use Rattle.rules.specs.Runs.{Span, TwoRuns}

-- the span is a part of cap slots
abbrev pub Within : ℕ → Span → Type 0
Within cap p = (p.a ≤ p.e) × (p.e ≤ cap)

-- both runs are
abbrev pub BothWithin : ℕ → TwoRuns → Type 0
BothWithin cap t = Within cap t.front × Within cap t.back

-- the place in memory where that part of the lent slots begins: a slot takes four bytes
abbrev pub part_start : Bor (List ℕ) → Span → ℕ × ℕ
part_start slots p = (slots.ref_ptr.0, p.a * 4 + slots.ref_ptr.1)
