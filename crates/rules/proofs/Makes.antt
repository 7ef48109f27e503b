-- The calls that make a record: one law for each way to return. Assumes nothing.
use mathlib.Core.List.{List}
use mathlib.Core.Option.{none, some}
use mathlib.Core.Path.{◌≡◌}
use Prim.Native.Nat.{ℕ, ◌<◌, ◌≤◌}
use borrow.Author.Tests.{lt-leb, le-leb}
use lib.ListN.{length}
use Rattle.rules.proofs.Slots.{lay_none}
use Rattle.rules.specs.Makes.{told_make, fresh, none_made, made_with}
use Rattle.rules.specs.Records.{Rec, new_rec}
use Rattle.rules.specs.Refusals.{most_slots, on_slots}
use Rattle.rules.specs.Choices.{ask, unless}

module _ (b : List ℕ) where
  pub fresh-refused : most_slots < length b → (record { refused = 1; moved = 0; made = none }, b) ≡ told_make (fresh b)
  unfolding fresh on_slots ask unless none_made
  fresh-refused lt = rw (lt-leb (length b) most_slots lt)

  pub fresh-made : (r : Rec) → length b ≤ most_slots → r ≡ new_rec 0
      → (record { refused = 0; moved = 0; made = some r }, b) ≡ told_make (fresh b)
  unfolding fresh on_slots ask unless made_with
  fresh-made r le made = rw (le-leb (length b) most_slots le, made, lay_none b 0)
