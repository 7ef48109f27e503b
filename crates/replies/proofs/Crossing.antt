-- What an exported call leaves in the caller's words: its proof goes by the cases of what the call below it answers, and
-- these say when a refusal keeps the words. Assumes nothing.
use Rattle.queue.proofs.Numbers.{some_number}
use Rattle.rules.proofs.Choices.{unless-go, unless-stop}

pub ruleset crossing = (unless-go, unless-stop, some_number)
