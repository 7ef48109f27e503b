-- `ends::pop_front_if` meets its contract. Assumes nothing.
use Rattle.ends.proofs.pops.Conditional.{front_condition, decided, refused_too}
use Rattle.ends.proofs.pops.pop_front_if.Goals as goal

pub returns-in_err-popped : goal.returns-in_err-popped
returns-in_err-popped c =
    refused_too _ _ _ _ _ (front_condition _ _ _) _ _ c.from_residual.ensures.1 c.in_err-popped.ensures

pub returns : goal.returns
returns c = decided _ _ _ _ _ (front_condition _ _ _) _ _ c.only_if.ensures c.in_ok-popped.ensures
