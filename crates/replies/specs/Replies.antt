-- The structs, field by field, in the terms of `InC`. Assumes nothing.
use Rattle.std.specs.Prelude.{Bool, ℕ}
use Rattle.replies.specs.InC.{Said}
use Rattle.replies.specs.declared.changes.Reply.{Reply}
use Rattle.replies.specs.declared.looks.FoundReply.{FoundReply}
use Rattle.replies.specs.declared.looks.TruthReply.{TruthReply}
use Rattle.replies.specs.declared.looks.OrderReply.{OrderReply}
use Rattle.replies.specs.declared.looks.SearchReply.{SearchReply}
use Rattle.replies.specs.declared.looks.CountReply.{CountReply}

abbrev pub of_reply : Reply → Said
of_reply r = (r.refused, (r.moved, (r.handed, r.number)))

abbrev pub of_found_reply : FoundReply → ℕ × (ℕ × ℕ)
of_found_reply r = (r.refused, (r.found, r.number))

abbrev pub of_truth_reply : TruthReply → ℕ × Bool
of_truth_reply r = (r.refused, r.is)

abbrev pub of_order_reply : OrderReply → ℕ × ℕ
of_order_reply r = (r.refused, r.order)

abbrev pub of_search_reply : SearchReply → ℕ × (ℕ × ℕ)
of_search_reply r = (r.refused, (r.position, r.found))

abbrev pub of_count_reply : CountReply → ℕ × ℕ
of_count_reply r = (r.refused, r.count)
