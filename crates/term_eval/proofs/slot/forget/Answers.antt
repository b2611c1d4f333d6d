use Rattle.std.proofs.Common.{◌<◌, inl, inr, refl, ◌∙◌, length, arith}
use Rattle.std.proofs.lemmas.Bool.{cases_lt}
use Rattle.std.proofs.Math.Seq.{map-set_same}
use Rattle.term_eval.specs.declared.slot.Slot.{Slot}
use Rattle.term_eval.specs.Slots.{empty}
use Rattle.term_eval.proofs.Slots.{cell-same, cell-other, cell-past}
use Rattle.term_eval.proofs.slot.forget.Goals as goal

pub loop-i-init : goal.loop-i-init
loop-i-init c = record { off = λ j low. absurd (let w : ⊥ = omega (arith, low) in w); wakes = refl; owners = refl }

pub loop-i-preserved : goal.loop-i-preserved
loop-i-preserved c =
    let l = c.loop-i in
    let within : l.i < length l.slots = omega (arith, c.loop-i-test.true, l.auto.slots) in
    record {
      off = λ j low. elim (cases_lt j l.i) [
        | inl less ↦ cell-other l.slots l.i j _ (λ e. let w : ⊥ = omega (arith, less, e) in w) ∙ l.invariant.off j less
        | inr from ↦ cell-same l.slots l.i j _ (omega (arith, low, from)) within
      ];
      wakes = map-set_same (λ (s : Slot). s.wake) l.slots l.i _ empty refl ∙ l.invariant.wakes;
      owners = map-set_same (λ (s : Slot). s.owner) l.slots l.i _ empty refl ∙ l.invariant.owners;
    }

pub returns-clause-cells : goal.returns-clause-cells
returns-clause-cells c i = elim (cases_lt i c.loop-i.i) [
  | inl less ↦ c.loop-i.invariant.off i less
  | inr from ↦ cell-past c.loop-i.slots i (omega (arith, from, c.loop-i-test.false, c.loop-i.auto.slots))
]
