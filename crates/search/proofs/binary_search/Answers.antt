-- `search::binary_search` meets its contract. Assumes nothing.
use mathlib.Core.Path.{◌∙◌, ap, sym}
use Rattle.runs.proofs.Asks.{asks_refused}
use Rattle.rules.specs.Looks.{sees}
use Rattle.rules.specs.Search.{search_for}
use Rattle.search.proofs.Searches.{spot_seen}
use Rattle.search.proofs.binary_search.Goals as goal

pub returns-in_err-check : goal.returns-in_err-check
unfolding search_for
returns-in_err-check c = asks_refused _ _ _ _ _ c.from_residual.ensures.1 c.in_err-check.ensures.number

pub returns : goal.returns
returns c =
    ap sees c.search_runs.ensures
    ∙ spot_seen _ _ (sym c.in_ok-check.ensures.number) _ _ c.whole_runs-list.ensures.front
    c.whole_runs-list.ensures.back _
