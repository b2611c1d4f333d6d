use Rattle.std.proofs.Common.{◌≡◌, rules, refl, ◌∙◌, ap}
use Rattle.std.specs.Prelude.{slice_set}
use Rattle.std.proofs.Math.Seq.{map-set_same}
use Rattle.term_eval.specs.declared.slot.Slot.{Slot}
use Rattle.term_eval.specs.Slots.{cells_of, empty}
use Rattle.term_eval.specs.declared.code.Node.TheVariants.{Latch}
use Rattle.term_eval.specs.CellWords.{on_if}
use Rattle.term_eval.specs.Run.{temporal_says}
use Rattle.term_eval.proofs.Slots.{cell-set, cell-at}
use Rattle.term_eval.proofs.run.tell_by.Goals as goal

pub returns-in-Confirmed-clause-cells : goal.returns-in-Confirmed-clause-cells
returns-in-Confirmed-clause-cells c =
    let a = c.args in
    rw c.in-Confirmed.is (rw (cell-at a.slots.now a.slot c.requires)
    (cell-set a.slots.now a.slot _ ∙ ap (slice_set (cells_of a.slots.now) a.slot) c.confirm.ensures.cell))

pub returns-in-Confirmed-clause-wakes : goal.returns-in-Confirmed-clause-wakes
returns-in-Confirmed-clause-wakes c = map-set_same (λ (s : Slot). s.wake) c.args.slots.now c.args.slot _ empty refl

pub returns-in-Confirmed-clause-owners : goal.returns-in-Confirmed-clause-owners
returns-in-Confirmed-clause-owners c = map-set_same (λ (s : Slot). s.owner) c.args.slots.now c.args.slot _ empty refl

pub returns-in-Held-clause-cells : goal.returns-in-Held-clause-cells
returns-in-Held-clause-cells c =
    let a = c.args in
    rw c.in-Held.is (rw (cell-at a.slots.now a.slot c.requires)
    (cell-set a.slots.now a.slot _ ∙ ap (slice_set (cells_of a.slots.now) a.slot) c.hold.ensures.cell))

pub returns-in-Held-clause-wakes : goal.returns-in-Held-clause-wakes
returns-in-Held-clause-wakes c = map-set_same (λ (s : Slot). s.wake) c.args.slots.now c.args.slot _ empty refl

pub returns-in-Held-clause-owners : goal.returns-in-Held-clause-owners
returns-in-Held-clause-owners c = map-set_same (λ (s : Slot). s.owner) c.args.slots.now c.args.slot _ empty refl

pub returns-in-Risen-clause-cells : goal.returns-in-Risen-clause-cells
returns-in-Risen-clause-cells c =
    let a = c.args in
    rw c.in-Risen.is (cell-set a.slots.now a.slot _ ∙ ap (slice_set (cells_of a.slots.now) a.slot) c.rise.ensures.cell)

pub returns-in-Risen-clause-wakes : goal.returns-in-Risen-clause-wakes
returns-in-Risen-clause-wakes c = map-set_same (λ (s : Slot). s.wake) c.args.slots.now c.args.slot _ empty refl

pub returns-in-Risen-clause-owners : goal.returns-in-Risen-clause-owners
returns-in-Risen-clause-owners c = map-set_same (λ (s : Slot). s.owner) c.args.slots.now c.args.slot _ empty refl

pub returns-after-first-clause-cells : goal.returns-after-first-clause-cells
returns-after-first-clause-cells c =
    let a = c.args in
    let holds : c.latch.result ≡ temporal_says a.now (cells_of a.slots.now) a.count a.first (Latch a.slot) =
    search (rules, cell-at a.slots.now a.slot c.requires) in
    rw c.in-Latched.is
    (cell-set a.slots.now a.slot _ ∙ ap (slice_set (cells_of a.slots.now) a.slot) (c.latch.ensures.cell ∙ ap on_if holds))

pub returns-after-first-clause-wakes : goal.returns-after-first-clause-wakes
returns-after-first-clause-wakes c = map-set_same (λ (s : Slot). s.wake) c.args.slots.now c.args.slot _ empty refl

pub returns-after-first-clause-owners : goal.returns-after-first-clause-owners
returns-after-first-clause-owners c = map-set_same (λ (s : Slot). s.owner) c.args.slots.now c.args.slot _ empty refl
