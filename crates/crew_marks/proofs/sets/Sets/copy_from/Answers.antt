use Rattle.std.proofs.Common.{sym, subst, ◌∙◌, ap}
use Rattle.std.specs.Box.{boxed_slice_items}
use Rattle.crew_marks.specs.MarkSets.{MarkSets, AreMarked, TellTouched, AreRanked}
use Rattle.crew_marks.proofs.Walking.{same-sets}
use Rattle.crew_marks.proofs.Ranking.{copied-ranked}
use Rattle.crew_marks.proofs.sets.Sets.copy_from.Goals as goal

pub invariant_of-self : goal.invariant_of-self
invariant_of-self c =
    let others = c.other.invariant in
    let ordered =
    ap (λ (s : MarkSets). s.order) c.self.view_is ∙ c.requires.order ∙ sym (ap (λ (s : MarkSets). s.order) c.other.view_is) in
    let same = sym (same-sets _ _ ordered c.copy.ensures c.copy-2.ensures c.copy-3.ensures c.copy-4.ensures) in (
      subst (λ s. AreMarked s c.copy_from-2.new.self) same (subst (AreMarked _) (sym c.copy_from-2.ensures) others.0),
      subst (λ s. TellTouched s (boxed_slice_items c.copy-5.new.flags)) same (subst (TellTouched _) (sym c.copy-5.ensures) others.1),
      copied-ranked _ _ _ _ c.copy_from.new.self ordered c.copy-4.ensures c.self.invariant.2.places
          (subst (AreRanked _ _) (sym c.copy_from.ensures) others.2),
    )
