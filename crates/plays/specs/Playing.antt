-- Where the code's replay stands and what its calls have done, in the terms of the rules. Assumes nothing.
use Rattle.std.specs.Prelude.{List, [], ◌≡◌, ℕ, ◌≤◌}
use Rattle.lines.specs.Puts.{Puts}
use Rattle.queue.specs.Answers.{rec_of}
use Rattle.rules.specs.WholeReplay as whole
use Rattle.rules.specs.WholeReplay.{Play, Part, ◌then◌}
use Rattle.plays.specs.declared.playing.Stage.{Stage}
use Rattle.plays.specs.declared.playing.Stage.TheVariants.{Records, Elements, Over}
use Rattle.plays.specs.declared.playing.Playing.{Playing}
use Rattle.plays.specs.declared.playing.Advanced.{Advanced}

abbrev pub stage_of : Stage → whole.Stage
stage_of Records = whole.in_records
stage_of (Elements i) = whole.in_elements i
stage_of Over = whole.over

-- the replay in the slots b
abbrev pub play_of : List ℕ → Playing → Play
play_of b y = record { slots = b; queue = rec_of y.queue; stage = stage_of y.stage }

-- what a call has done that left the slots b and wrote w
abbrev pub part_of : List ℕ → Advanced → List ℕ → Part
part_of b a w = record {
  play = play_of b a.playing;
  used = a.used;
  records = a.records;
  broke = a.broken;
  written = w;
}

-- behind what a call had done, the part p was done: the slots b and the buffer t became b' and t'
pub record Does (b b' t t' : List ℕ) (before after : Advanced) (p : Part) : Type 0 where
  pub done : part_of b' after p.written ≡ part_of b before [] then p
  pub puts : Puts t t' before.written after.written p.written

-- a call over n bytes with a buffer of m has used and written no more, and each record took at least a byte
abbrev pub Within : ℕ → ℕ → Advanced → Type 0
Within n m a = (a.records ≤ a.used) × (a.used ≤ n) × (a.written ≤ m)
