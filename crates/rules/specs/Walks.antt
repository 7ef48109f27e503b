-- A walk keeps the queue's record and its own two ends. Assumes nothing.
use Rattle.std.specs.Prelude.{◌&&◌, List, ℕ, ◌+◌, ◌-◌, leb, ltb, length, get_or}
use Rattle.std.proofs.Math.Option.{Option, none, some}
use Rattle.rules.specs.Looks.{Look, looked}
use Rattle.rules.specs.Records.{Rec, held}
use Rattle.rules.specs.Refusals.{on_queue}
use Rattle.rules.specs.Choices.{ask, unless, whether}

-- what is still to be walked: the positions from low to before high
pub record Walk : Type 0 where
  pub rec : Rec
  pub low : ℕ
  pub high : ℕ

-- what a step tells: the refusal number, 0 if there is none; the walk; what it gives
pub record WalkStep : Type 0 where
  pub refused : ℕ
  pub walk : Walk
  pub gives : Option ℕ

-- 1, then 2: the record breaks rule 2, or the ends aren't low <= high <= len
unfoldable pub on_walk : ℕ → Walk → ℕ
on_walk cap w = on_queue cap w.rec (ask (leb w.low w.high && leb w.high w.rec.len) 2 0)

-- refused with n, or n is 0 and there is Nothing left: the same walk
unfoldable pub same_walk : Walk → ℕ → WalkStep
same_walk w n = record { refused = n; walk = w; gives = none }

-- a walk over the whole list
unfoldable pub whole_walk : Rec → Walk
whole_walk r = record { rec = r; low = 0; high = r.len }

unfoldable pub begin_walk : List ℕ → Rec → Look Walk
begin_walk b r = looked (on_queue (length b) r 0) (whole_walk r)

-- `next` gives the element at the low end, which steps on by one
unfoldable pub next_step : List ℕ → Walk → WalkStep
next_step b w =
    let n = on_walk (length b) w in
    unless n
    (whether (ltb w.low w.high)
    (record {
      refused = 0;
      walk = record { rec = w.rec; low = w.low + 1; high = w.high };
      gives = some (get_or (held b w.rec) w.low 0);
    })
    (same_walk w 0))
    (same_walk w n)

-- `next_back` gives the element before the high end, which steps back by one
unfoldable pub next_back_step : List ℕ → Walk → WalkStep
next_back_step b w =
    let n = on_walk (length b) w in
    unless n
    (whether (ltb w.low w.high)
    (record {
      refused = 0;
      walk = record { rec = w.rec; low = w.low; high = w.high - 1 };
      gives = some (get_or (held b w.rec) (w.high - 1) 0);
    })
    (same_walk w 0))
    (same_walk w n)
