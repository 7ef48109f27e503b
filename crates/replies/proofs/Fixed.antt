-- The structs that cross to C are fixed by what is said of them: every field is in it (see queue/proofs/Fixed).
-- Assumes nothing.
use mathlib.Core.Bool.{Bool}
use mathlib.Core.Option as maybe
use mathlib.Core.Path.{◌≡◌, refl}
use Prim.Native.Nat.{ℕ}
use Rattle.std.specs.Prelude.{Option, None, Some}
use Rattle.conditions.specs.Tests.{test_of}
use Rattle.conditions.specs.declared.Test.{Test as Asking}
use Rattle.conditions.specs.declared.Test.TheVariants.{Below, AtLeast, Equal, NotEqual}
use Rattle.queue.proofs.Fixed.{fixed}
use Rattle.replies.specs.InC.{Said}
use Rattle.replies.specs.Kinds.{of_asked}
use Rattle.replies.specs.Replies.{of_reply, of_found_reply, of_truth_reply, of_order_reply, of_search_reply, of_count_reply}
use Rattle.rules.specs.Conditions.{Test, below, at_least, equal, other}
use Rattle.replies.specs.declared.changes.Reply.{Reply}
use Rattle.replies.specs.declared.looks.FoundReply.{FoundReply}
use Rattle.replies.specs.declared.looks.TruthReply.{TruthReply}
use Rattle.replies.specs.declared.looks.OrderReply.{OrderReply}
use Rattle.replies.specs.declared.looks.SearchReply.{SearchReply}
use Rattle.replies.specs.declared.looks.CountReply.{CountReply}

pub one_reply : (a b : Reply) → of_reply a ≡ of_reply b → a ≡ b
one_reply = fixed of_reply
    (λ (s : Said). record { refused = s.0; handed = s.1.1.0; number = s.1.1.1; moved = s.1.0 }) (λ r. refl)

pub one_found_reply : (a b : FoundReply) → of_found_reply a ≡ of_found_reply b → a ≡ b
one_found_reply = fixed of_found_reply
    (λ (s : ℕ × (ℕ × ℕ)). record { refused = s.0; found = s.1.0; number = s.1.1 }) (λ r. refl)

pub one_truth_reply : (a b : TruthReply) → of_truth_reply a ≡ of_truth_reply b → a ≡ b
one_truth_reply = fixed of_truth_reply (λ (s : ℕ × Bool). record { refused = s.0; is = s.1 }) (λ r. refl)

pub one_order_reply : (a b : OrderReply) → of_order_reply a ≡ of_order_reply b → a ≡ b
one_order_reply = fixed of_order_reply (λ (s : ℕ × ℕ). record { refused = s.0; order = s.1 }) (λ r. refl)

pub one_search_reply : (a b : SearchReply) → of_search_reply a ≡ of_search_reply b → a ≡ b
one_search_reply = fixed of_search_reply
    (λ (s : ℕ × (ℕ × ℕ)). record { refused = s.0; found = s.1.1; position = s.1.0 }) (λ r. refl)

pub one_count_reply : (a b : CountReply) → of_count_reply a ≡ of_count_reply b → a ≡ b
one_count_reply = fixed of_count_reply (λ (s : ℕ × ℕ). record { refused = s.0; count = s.1 }) (λ r. refl)

-- ---- a test by its kind

asked_from : maybe.Option Test → Option Asking
asked_from maybe.none = None
asked_from (maybe.some (below k)) = Some (Below k)
asked_from (maybe.some (at_least k)) = Some (AtLeast k)
asked_from (maybe.some (equal k)) = Some (Equal k)
asked_from (maybe.some (other k)) = Some (NotEqual k)

asked_back : (a : Option Asking) → asked_from (of_asked a) ≡ a
unfolding asked_from test_of
asked_back None = refl
asked_back (Some (Below k)) = refl
asked_back (Some (AtLeast k)) = refl
asked_back (Some (Equal k)) = refl
asked_back (Some (NotEqual k)) = refl

pub one_asked : (a b : Option Asking) → of_asked a ≡ of_asked b → a ≡ b
one_asked = fixed of_asked asked_from asked_back
