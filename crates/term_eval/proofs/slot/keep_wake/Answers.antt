use Rattle.std.proofs.Common.{refl}
use Rattle.std.proofs.Math.Seq.{map-set_same}
use Rattle.term_eval.specs.declared.slot.Slot.{Slot}
use Rattle.term_eval.specs.Slots.{empty}
use Rattle.term_eval.proofs.Slots.{wake-set}
use Rattle.term_eval.proofs.slot.keep_wake.Goals as goal

pub returns-clause-wakes : goal.returns-clause-wakes
returns-clause-wakes c = wake-set c.args.slots.now c.args.i _

pub returns-clause-cells : goal.returns-clause-cells
returns-clause-cells c = map-set_same (λ (s : Slot). s.cell) c.args.slots.now c.args.i _ empty refl

pub returns-clause-owners : goal.returns-clause-owners
returns-clause-owners c = map-set_same (λ (s : Slot). s.owner) c.args.slots.now c.args.i _ empty refl
