use Rattle.std.proofs.Common.{sym, subst, ◌∙◌, arith}
use Rattle.std.proofs.lemmas.Grind.{get_or_default_zero}
use Rattle.crew_marks.specs.MarkSets.{HasMark}
use Rattle.crew_marks.proofs.Walking.{marked-set, touched-set, room-within}
use Rattle.crew_marks.proofs.Ranking.{rank-within, ranked-set}
use Rattle.crew_marks.proofs.sets.Sets.set.Goals as goal

pub put-requires : goal.put-requires
put-requires c =
    let has = subst (λ s. HasMark s c.args.alert) (sym c.self.view_is) c.requires in
    rank-within _ _ _ c.args.alert c.index.result.now c.self.invariant.2 (omega (arith, has.shown, c.self.invariant.2.many))
    (c.index.ensures ∙ get_or_default_zero _ c.args.alert _ (omega (arith, has.shown, c.self.invariant.2.many)))

pub put-requires-2 : goal.put-requires-2
put-requires-2 c =
    room-within _ _ c.args.alert (subst (λ s. HasMark s c.args.alert) (sym c.self.view_is) c.requires) c.self.invariant.0

pub invariant_of-self : goal.invariant_of-self
invariant_of-self c =
    let has = subst (λ s. HasMark s c.args.alert) (sym c.self.view_is) c.requires in
    let rank = c.index.ensures ∙ get_or_default_zero _ c.args.alert _ (omega (arith, has.shown, c.self.invariant.2.many)) in (
      marked-set _ _ _ c.args.alert c.args.mark c.is_marked.result has c.is_marked.ensures
          c.put-2.ensures.room c.put-2.ensures.marks c.self.invariant.0,
      touched-set _ _ c.args.alert c.args.mark c.is_touched.result has c.is_touched.ensures c.self.invariant.1,
      ranked-set _ _ _ _ c.args.alert c.index.result.now c.args.mark has rank c.put.ensures.room c.put.ensures.marks c.self.invariant.2,
    )
