-- `search::in_runs::point_runs` meets its contract. Assumes nothing.
use native.Mathlib.Omega.{arith}
use Rattle.search.proofs.Searches.{counted_on, point_handed}
use Rattle.search.proofs.in_runs.point_runs.Goals as goal

pub overflow_add-result : goal.overflow_add-result
overflow_add-result c =
    let k = counted_on _ _ _ _ _ _ c.handed_run-run.ensures c.counted_from.ensures
    c.place_in-low.ensures.0 in omega arith

pub returns : goal.returns
returns c =
    point_handed _ _ _ _ _ _ c.handed_run-run.ensures c.counted_from.ensures
    c.place_in-low.ensures.1
