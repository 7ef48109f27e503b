-- `search::in_runs::begins_with` meets its contract. Assumes nothing.
use Rattle.std.proofs.Common.{rules}
use Rattle.search.proofs.Handed.{begins_told}
use Rattle.search.proofs.in_runs.begins_with.Goals as goal

pub returns : goal.returns
returns c = begins_told _ _ _ _ c.first.ensures.value c.is_some_and.ensures (λ x told. search rules)
