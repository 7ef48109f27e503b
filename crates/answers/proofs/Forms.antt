-- The one form says of an answer what its call says: of one that makes a record, and of one on two queues. Assumes
-- nothing.
use mathlib.Core.Path.{◌≡◌, refl}
use Rattle.std.specs.Prelude.{Result, Ok, Err}
use Rattle.answers.specs.Answers.{made_answer, both_answered, changing_both}
use Rattle.queue.specs.Answers.{changing, queued, of_made}
use Rattle.queue.specs.Pairs.{of_joined, of_split}
use Rattle.rules.specs.Outcome.{State}
use Rattle.rules.specs.Sequences.{made_or}
use Rattle.queue.specs.declared.records.Deque.{Deque}
use Rattle.queue.specs.declared.refusals.Refusal.{Refusal}
use Rattle.queue.specs.declared.answers.Change.{Change}
use Rattle.queue.specs.declared.answers.Pair.{Pair}

-- h was held before
pub made_form : (h : State) (a : Result (Change Deque) Refusal) → changing queued h a ≡ made_answer h (of_made a)
unfolding made_or
made_form h (Ok c) = refl
made_form h (Err x) = refl

pub joined_form : (q o : Deque) (h : State) (a : Result (Change Pair) Refusal)
    → changing_both (queued q) (queued o) a ≡ both_answered h (of_joined q o a)
unfolding made_or
joined_form q o h (Ok c) = refl
joined_form q o h (Err x) = refl

pub split_form : (q : Deque) (h : State) (a : Result (Change Pair) Refusal)
    → changing_both (queued q) h a ≡ both_answered h (of_split q a)
unfolding made_or
split_form q h (Ok c) = refl
split_form q h (Err x) = refl
