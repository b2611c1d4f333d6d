use Rattle.std.proofs.Common.{◌≡◌, false, Some, None, get_or, sym, subst, ◌∙◌, ap, arith}
use Rattle.std.specs.List.{find}
use Rattle.std.proofs.lemmas.Grind.{get_or_default_zero}
use Rattle.crew_marks.specs.MarkSets.{MarkSets}
use Rattle.crew_marks.proofs.Ranking.{first-at, first-nowhere}
use Rattle.crew_marks.proofs.sets.Sets.first.Goals as goal

pub returns-then-rank-end : goal.returns-then-rank-end
returns-then-rank-end c =
    subst (λ (s : MarkSets). Some c.index.result.now ≡ find (λ a. get_or s.shown a false) s.order) c.self.view_is
    (ap Some (c.index.ensures ∙ get_or_default_zero _ c.next_or-rank.result _ (omega (arith, c.if-rank-end.true, c.len-end.ensures)))
    ∙ sym (first-at _ _ _ c.next_or-rank.result c.self.invariant.2 c.next_or-rank.ensures.none
    (omega (arith, c.if-rank-end.true, c.len-end.ensures)) (c.next_or-rank.ensures.marked c.if-rank-end.true)))

pub returns-else-rank-end : goal.returns-else-rank-end
returns-else-rank-end c =
    subst (λ (s : MarkSets). None ≡ find (λ a. get_or s.shown a false) s.order) c.self.view_is
    (sym (first-nowhere _ _ _ c.next_or-rank.result c.self.invariant.2 c.next_or-rank.ensures.none
    (omega (arith, c.if-rank-end.false, c.len-end.ensures))))
