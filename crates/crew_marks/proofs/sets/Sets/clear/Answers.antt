use Rattle.std.proofs.Common.{◌∙◌, ap, sym, length, replicate, false}
use Rattle.std.proofs.lemmas.List.{length-replicate}
use Rattle.crew_marks.proofs.Walking.{unset-flag, unset-marked, unset-touched}
use Rattle.crew_marks.proofs.Ranking.{unset-ranked}
use Rattle.crew_marks.proofs.sets.Sets.clear.Goals as goal

pub invariant_of-self : goal.invariant_of-self
invariant_of-self c =
    let ranked = c.self.invariant.2 in (
      unset-marked _ _ _ _ _ c.unset.ensures c.unset-2.ensures c.unset-3.ensures c.unset-4.ensures _
          (c.clear-2.ensures.room ∙ c.self.invariant.0.room) c.clear-2.ensures.none,
      unset-touched _ _ _ _ _ c.unset.ensures c.unset-2.ensures c.unset-3.ensures c.unset-4.ensures _
          (c.unset-5.ensures ∙ ap (λ n. replicate n false) c.self.invariant.1.many),
      unset-ranked _ _ _ ranked.places (ranked.many ∙ sym (ap length c.unset-4.ensures ∙ length-replicate _ false))
          (c.clear.ensures.room ∙ ranked.room) (λ a. unset-flag _ _ a c.unset-4.ensures) c.clear.ensures.none,
    )
