-- THE CODE IS IN THE THEOREM: what sequences of calls of `turn` leave is what the
-- rules' sequences leave, so the theorems of those hold of these. Assumes nothing.
use mathlib.Core.Bool.{true}
use mathlib.Core.List.{List, [], ◌∷◌}
use mathlib.Core.Logic.{◌≢◌, ◌⊎◌}
use mathlib.Core.Path.{◌≡◌, refl, sym, ◌∙◌, ap, subst}
use Prim.Native.Nat.{ℕ, ◌+◌}
use lib.ListN.{take}
use Rattle.rules.proofs.Marked.{marked_run}
use Rattle.rules.proofs.Portions.{portions_are_a_move}
use Rattle.rules.proofs.Theorems.{conserved, refused_leaves}
use Rattle.rules.specs.Outcome.{shut}
use Rattle.rules.specs.Portions.{portions, whole_move, AllAccepted, no_more, accepting, OneReaches}
use Rattle.rules.specs.Records.{Rec, new_rec}
use Rattle.rules.specs.Sequences.{Pair, CallStep, Side, StepAnswer, Turn, facing, pair_of, queue_of, step, told_step, start, run, times_entered, times_left}
use Rattle.rules.specs.Standing.{standing_slots}
use Rattle.answers.specs.Answers.{number_told}
use Rattle.turn_calls.specs.Calls.{turn_of}
use Rattle.turns.specs.Answers.{told_left}
use Rattle.turns.specs.Played.{Played, over, played, AllAnswered}
use Rattle.answers.specs.declared.pairs.StepAnswer.{StepAnswer as StepAnswered}

-- what the contract tells of the queues
queues-left : (c : CallStep) (r : StepAnswered) (m : Pair) → told_left r m.a m.b ≡ told_step c → m ≡ c.queues
queues-left c r m e = ap (λ (t : StepAnswer × List ℕ × List ℕ). pair_of (queue_of t.1 t.0.a) (queue_of t.2 t.0.b)) e

-- So condition 1 holds of the code: where a call of `turn` on any queues s is
-- refused, what it leaves is s, nothing entered, and nothing left by it.
pub code_refused_leaves : (s : Pair) (t : Turn) (r : StepAnswered) (m : Pair)
    → told_left r m.a m.b ≡ told_step (step s t) → number_told r.refused ≢ 0
    → (m ≡ s) × ((step s t).entered ≡ []) × ((step s t).left ≡ [])
code_refused_leaves s t r m f ne =
    let refused = ap (λ (a : StepAnswer × List ℕ × List ℕ). a.0.refused) f in
    let n = refused_leaves s t (λ z. ne (refused ∙ z)) in
    (queues-left (step s t) r m f ∙ n.queues, n.entered, n.left)

-- A sequence of calls of `turn`, each given what the last left, is such a sequence of the rules.
pub is_run : {s e : Pair} {ts : List Turn} → Played s ts e → run s ts ≡ e
unfolding run
is_run over = refl
is_run (played {s} {e} {ts} d k r m f p) =
    ap (λ (q : Pair). run q ts) (sym (queues-left (step s (turn_of d k)) r m f)) ∙ is_run p

-- Where each answered that it was not refused, all are accepted.
answered-accepted : {s e : Pair} {ts : List Turn} (p : Played s ts e) → AllAnswered p → AllAccepted s ts
unfolding AllAnswered
answered-accepted over a = no_more
answered-accepted (played {s} {e} {ts} d k r m f p) a =
    accepting (sym (ap (λ (t : StepAnswer × List ℕ × List ℕ). t.0.refused) f) ∙ a.0)
    (subst (λ (q : Pair). AllAccepted q ts) (queues-left (step s (turn_of d k)) r m f)
    (answered-accepted p a.1))

-- So condition 3 holds of the code: from any two slot buffers p and q with two fresh queues
-- on, after the first n of any calls ts, for every number x, the times it entered are the
-- times it stands, counted slot by slot in what the code left, and the times it left.
pub code_conserves : (x : ℕ) (p q : List ℕ) (ts : List Turn) (n : ℕ) (e : Pair)
    → let s = start p q in
    let u = take n ts in
    Played s u e → times_entered x s u
    ≡ standing_slots x e.a.slots e.a.state + standing_slots x e.b.slots e.b.state + times_left x s u
code_conserves x p q ts n e l =
    let s = start p q in
    let u = take n ts in
    subst (λ (k : Pair). times_entered x s u
    ≡ standing_slots x k.a.slots k.a.state + standing_slots x k.b.slots k.b.state + times_left x s u)
    (is_run l) (conserved x p q ts n)

-- So portions are a move by the code: one or more portions of the queue d into a fresh one, with no other call between,
-- none refused, that leave it empty, leave what one call of the whole move leaves, every slot, both records and marks.
pub code_portions_move : (d : Side) (b : List ℕ) (r : Rec) (b' : List ℕ) (n : ℕ) (ns : List ℕ) (e e' : Pair) (k : Rec)
    → let s = facing d (pair_of (queue_of b (shut r)) (queue_of b' (shut (new_rec 0)))) in
    (p : Played s (portions d (n ∷ ns)) e) → AllAnswered p → (facing d e).a.state ≡ shut k → k.len ≡ 0
    → Played s (whole_move d ∷ []) e'
    → e ≡ e'
unfolding run
code_portions_move d b r b' n ns e e' k p all ends none_left q =
    let w = portions_are_a_move d b r b' n ns k (answered-accepted p all)
    (ap (λ (x : Pair). (facing d x).a.state) (is_run p) ∙ ends) none_left in
    sym (is_run p) ∙ w.queues ∙ is_run q

-- And while the mark of the queue d stands, calls of `turn` leave that queue as it is, or one of them is a portion into
-- it or makes its slots anew.
pub code_marked_stays : (d : Side) (s e : Pair) (ts : List Turn) (r : Rec) → (facing d s).a.state ≡ shut r
    → r.mark ≡ true
    → Played s ts e
    → ((facing d e).a ≡ (facing d s).a) ⊎ OneReaches d ts
code_marked_stays d s e ts r h m p =
    subst (λ (k : Pair). ((facing d k).a ≡ (facing d s).a) ⊎ OneReaches d ts) (is_run p) (marked_run d s ts r h m)
