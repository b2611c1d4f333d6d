use Rattle.std.proofs.Common.{◌≡◌, suc, ◌+◌, slice_index, sym, ap, subst, ◌∙◌, arith, add-one}
use Rattle.std.proofs.lemmas.List.{get_or_default}
use Rattle.condition_codes.specs.IsAskers.{IsAskers}
use Rattle.condition_codes.proofs.askers.Askers.asking.Goals as goal

pub returns-clause-each : goal.returns-clause-each
returns-clause-each c b is lt =
    let o = c.args.operand in
    let starts = c.as_ref-table.result.now.starts.items.items in
    let same : c.as_ref-table.result.now ≡ c.args.self.now = c.as_ref-table.ensures ∙ c.self.view_is in
    let own : IsAskers b c.as_ref-table.result.now = subst (IsAskers b) (sym same) is in
    let from : c.index.result.now ≡ slice_index starts o = c.index.ensures ∙ get_or_default starts o c.index.result.now 0 (omega (arith, lt, own.pieces.count)) in
    let to : c.index-2.result.now ≡ slice_index starts (suc o) =
    c.index-2.ensures ∙ get_or_default starts (o + 1) c.index-2.result.now 0 (omega (arith, lt, own.pieces.count)) ∙ ap (slice_index starts) (add-one o) in
    rw (from, to, c.deref.ensures.value) (λ j i p x place asks number. own.each o j i p x lt place asks number)

pub returns-clause-only : goal.returns-clause-only
returns-clause-only c b is lt =
    let o = c.args.operand in
    let starts = c.as_ref-table.result.now.starts.items.items in
    let same : c.as_ref-table.result.now ≡ c.args.self.now = c.as_ref-table.ensures ∙ c.self.view_is in
    let own : IsAskers b c.as_ref-table.result.now = subst (IsAskers b) (sym same) is in
    let from : c.index.result.now ≡ slice_index starts o = c.index.ensures ∙ get_or_default starts o c.index.result.now 0 (omega (arith, lt, own.pieces.count)) in
    let to : c.index-2.result.now ≡ slice_index starts (suc o) =
    c.index-2.ensures ∙ get_or_default starts (o + 1) c.index-2.result.now 0 (omega (arith, lt, own.pieces.count)) ∙ ap (slice_index starts) (add-one o) in
    rw (from, to, c.deref.ensures.value) (λ k a there. own.only o k a lt there)
