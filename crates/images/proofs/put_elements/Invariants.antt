-- `images::put_elements` meets its contract. Assumes nothing.
use Rattle.std.proofs.Common.{◌≡◌}
use Rattle.std.proofs.lemmas.List.Edits.{sets}
use Rattle.rules.specs.Images.{all_bytes}
use Rattle.rules.specs.Slots.{list_of}
use Rattle.images.proofs.put_elements.Given as goal

abbrev pub invariant-loop-i : goal.invariant-loop-i
invariant-loop-i l = l.target ≡ sets l.initial.target 3 (all_bytes (list_of l.slots l.q.head.0 l.i))
