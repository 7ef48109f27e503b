-- `search::in_runs::search_runs` meets its contract. Assumes nothing.
use mathlib.Core.Path.{sym, ◌∙◌}
use native.Mathlib.Omega.{arith}
use Rattle.conditions.specs.Tests.{test_of}
use Rattle.search.proofs.Searches.{spot-handed, spot_tie, counted_on, hits, spot_found, spot_unlike}
use Rattle.search.proofs.in_runs.search_runs.Goals as goal

pub returns-then-begins_with : goal.returns-then-begins_with
unfolding test_of
returns-then-begins_with c = spot_tie _ _ _ (sym c.begins_with.ensures ∙ c.if-begins_with.true)

pub overflow_add-at : goal.overflow_add-at
overflow_add-at c =
    let k = counted_on _ _ _ _ _ _ c.handed_run-run.ensures c.counted_from.ensures
    c.place_in-low.ensures.0 in omega arith

pub returns-then-eq : goal.returns-then-eq
unfolding test_of
returns-then-eq c =
    let hit = c.eq.ensures ∙ hits _ _ _ _ c.get.ensures.lookup.0 (c.get.ensures.lookup.4 (omega arith)) in
    spot_found _ _ _ _ c.place_in-low.ensures.1 _ hit c.if-eq.true
    ∙ spot-handed _ _ _ _ _ c.handed_run-run.ensures c.counted_from.ensures
    (sym c.begins_with.ensures ∙ c.if-begins_with.false)

pub returns-else-eq : goal.returns-else-eq
unfolding test_of
returns-else-eq c =
    let hit = c.eq.ensures ∙ hits _ _ _ _ c.get.ensures.lookup.0 (c.get.ensures.lookup.4 (omega arith)) in
    spot_unlike _ _ _ _ c.place_in-low.ensures.1 _ hit c.if-eq.false
    ∙ spot-handed _ _ _ _ _ c.handed_run-run.ensures c.counted_from.ensures
    (sym c.begins_with.ensures ∙ c.if-begins_with.false)
