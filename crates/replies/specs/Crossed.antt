-- What C gets of the code's own answers: what is said, and the words after. Refused, the words stay as they were: `old`.
-- An exported call's contract says the same of the rules' answer (`InC`), and is proved over this. Assumes nothing.
use Rattle.std.proofs.Math.Option.{none}
use Rattle.std.specs.Prelude.{List, ℕ, Result, Ok, Err}
use Rattle.queue.specs.Answers.{number_of, rec_of}
use Rattle.queue.specs.Looks.{walk_of}
use Rattle.elements.specs.Answers.{given}
use Rattle.queue.specs.declared.answers.Change.{Change}
use Rattle.queue.specs.declared.answers.Pair.{Pair}
use Rattle.queue.specs.declared.refusals.Refusal.{Refusal}
use Rattle.elements.specs.declared.answers.Handed.{Handed}
use Rattle.elements.specs.declared.answers.Step.{Step}
use Rattle.replies.specs.InC.{Said, said, element_in_c}
use Rattle.replies.specs.Records.{rec_words, walk_words}

-- of a call that hands nothing over, where f tells the words of the record that it leaves
abbrev pub change_in_c : {R : Type 0} → (R → List ℕ) → List ℕ → Result (Change R) Refusal → Said × List ℕ
change_in_c f old (Ok c) = (said 0 c.moved none, f c.after)
change_in_c f old (Err x) = (said (number_of x) 0 none, old)

-- of one that can hand an element over
abbrev pub handed_in_c : {R : Type 0} → (R → List ℕ) → List ℕ → Result (Handed R) Refusal → Said × List ℕ
handed_in_c f old (Ok h) = (said 0 h.moved (given h.number), f h.after)
handed_in_c f old (Err x) = (said (number_of x) 0 none, old)

-- of one on two queues: our record's words and the other's
abbrev pub paired_in_c : List ℕ → List ℕ → Result (Change Pair) Refusal → Said × List ℕ × List ℕ
paired_in_c old old' (Ok c) =
    (said 0 c.moved none, rec_words (rec_of c.after.queue), rec_words (rec_of c.after.other))
paired_in_c old old' (Err x) = (said (number_of x) 0 none, old, old')

-- of a walk's step: refusal number, what it gives, and the walk's words
abbrev pub stepped_in_c : List ℕ → Result Step Refusal → (ℕ × (ℕ × ℕ)) × List ℕ
stepped_in_c old (Ok s) = ((0, element_in_c (given s.number)), walk_words (walk_of s.walk))
stepped_in_c old (Err x) = ((number_of x, (0, 0)), old)
