use Rattle.std.proofs.Common.{◌+◌, ◌++◌, [], ◌∷◌, false, drop, Vec, Global, sym, ap, ◌∙◌, append-nil, arith}
use Rattle.std.proofs.lemmas.List.{drop_all}
use Rattle.term_eval.specs.declared.code.Step.{Step}
use Rattle.term_eval.specs.declared.owner.Owner.{Owner}
use Rattle.term_eval.specs.declared.code.Node.TheVariants.{Const}
use Rattle.term_eval.specs.Code.{owners}
use Rattle.term_eval.proofs.Owning.{one-more, no-more}
use Rattle.term_eval.proofs.owner.add_owners.Goals as goal
use Rattle.term_eval.proofs.owner.add_owners.Goals.{then-has_slot+in_ok-push, else-has_slot}

abbrev d : Step
d = record { node = Const false; up = 0 }

pub loop-i-preserved : goal.loop-i-preserved
loop-i-preserved c = elim c.if-has_slot.branch [
  | then-has_slot+in_ok-push w ↦
      ap (λ (v : Vec Owner Global). v.items ++ owners (c.loop-i.i + 1) (drop (c.loop-i.i + 1) c.args.steps.now)) w.list-is
      ∙ ap (λ l. l ++ owners (c.loop-i.i + 1) (drop (c.loop-i.i + 1) c.args.steps.now)) w.in_ok-push.ensures.items
      ∙ ap (λ o. (c.loop-i.list.items ++ o ∷ []) ++ owners (c.loop-i.i + 1)
      (drop (c.loop-i.i + 1) c.args.steps.now)) w.owner_of.ensures
      ∙ one-more c.loop-i.i c.args.steps.now d c.loop-i-test.true c.loop-i.list.items
      (sym w.if-has_slot.true ∙ c.has_slot.ensures) ∙ c.loop-i.invariant
  | else-has_slot w ↦
      ap (λ (v : Vec Owner Global). v.items ++ owners (c.loop-i.i + 1) (drop (c.loop-i.i + 1) c.args.steps.now)) w.list-is
      ∙ no-more c.loop-i.i c.args.steps.now d c.loop-i-test.true c.loop-i.list.items
      (sym w.if-has_slot.false ∙ c.has_slot.ensures) ∙ c.loop-i.invariant
]

pub returns : goal.returns
unfolding owners
returns c = sym (append-nil c.loop-i.list.items) ∙ ap (λ l. c.loop-i.list.items ++ owners c.loop-i.i l)
    (sym (drop_all c.loop-i.i c.args.steps.now (omega (arith, c.loop-i-test.false)))) ∙ c.loop-i.invariant
