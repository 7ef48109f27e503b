-- `copies::wraps::wrap_copy_apart` meets its contract. Assumes nothing.
use Rattle.std.proofs.Common.{◌≡◌, ◌∙◌, sym, ap, length, arith}
use Rattle.std.proofs.lemmas.Bool.{eqb-true, eq-eqb, true≢false}
use Rattle.copies.proofs.Overlaps.{one_overlap}
use Rattle.rules.proofs.Slots.{lay-own}
use Rattle.rules.specs.Places.{step_back}
use Rattle.rules.specs.Slots.{copied}
use Rattle.copies.proofs.wraps.wrap_copy_apart.Goals as goal

pub returns-then-eq : goal.returns-then-eq
returns-then-eq c =
    let a = c.args in
    sym (lay-own a.slots.now a.src.0 a.len)
    ∙ ap (λ d. copied a.slots.now a.src.0 d a.len) (eqb-true _ _ (sym c.eq.ensures ∙ c.if-eq.true))

pub copy_src_before_dst-requires-clause-src_nonzero : goal.copy_src_before_dst-requires-clause-src_nonzero
copy_src_before_dst-requires-clause-src_nonzero c =
    let back : c.as_index-2.result ≡ step_back (length c.args.slots.now) c.args.dst.0 c.args.src.0 =
    c.as_index-2.ensures ∙ c.wrap_sub-after.ensures.place ∙ ap (step_back _ c.args.dst.0) c.as_index.ensures in
    one_overlap _ _ _ _ c.requires.src_in_bounds.0 c.requires.src_in_bounds.1 c.requires.one_overlap
    (λ same. true≢false (sym (eq-eqb _ _ same) ∙ sym c.eq.ensures ∙ c.if-eq.false)) (omega arith)
