use Rattle.std.proofs.Common.{suc, false, not, ◌&&◌, get_or, sym, ap, ◌∙◌, arith, add-one}
use Rattle.std.proofs.lemmas.List.{get_or_default}
use Rattle.fwc_lane.proofs.procedures.stands_as_kept.Goals as goal

pub returns-then-when : goal.returns-then-when
returns-then-when c =
    let truths = c.args.terms.now.truths.items in
    let n = c.args.number in
    ap not (c.index-done.ensures ∙ ap (λ i. get_or truths i c.index-done.result.now) (add-one n) ∙ get_or_default truths (suc n) c.index-done.result.now false (omega (arith, c.requires)))
    ∙ ap (λ t. t && not (get_or truths (suc n) false))
    (sym c.if-when.true ∙ c.index-when.ensures ∙ get_or_default truths n c.index-when.result.now false (omega (arith, c.requires)))

pub returns-else-when : goal.returns-else-when
returns-else-when c =
    let truths = c.args.terms.now.truths.items in
    let n = c.args.number in
    c.if-when.false
    ∙ ap (λ t. t && not (get_or truths (suc n) false))
    (sym c.if-when.false ∙ c.index-when.ensures ∙ get_or_default truths n c.index-when.result.now false (omega (arith, c.requires)))
