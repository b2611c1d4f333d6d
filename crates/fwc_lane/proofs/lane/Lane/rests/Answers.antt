use Rattle.std.proofs.Common.{◌≡◌, Bool, true, false, not, refl, sym, ◌∙◌}
use Rattle.fwc_lane.proofs.lane.Lane.rests.Goals.{then-self, else-self, then-stays, else-stays, then-are_idle, else-are_idle, then-not-any, else-not-any, then-self-one_up, else-self-one_up, then-self-two_up, else-self-two_up}
use Rattle.fwc_lane.proofs.lane.Lane.rests.Goals as goal

from-not : (a : Bool) → not a ≡ true → a ≡ false
from-not true on = sym on
from-not false on = refl

pub returns-then-none_due-clause-rest : goal.returns-then-none_due-clause-rest
returns-then-none_due-clause-rest c on =
    let not-false : false ≡ true → ⊥ = λ e. (let clash : false ≡ true = e in cc) in
    let two : c.if-self-one_up.value ≡ true = elim c.if-self-two_up.branch [
      | then-self-two_up w ↦ w.if-self-two_up.true
      | else-self-two_up w ↦ absurd (not-false (sym w.if-self-two_up.false ∙ sym w.value-is ∙ c.if-none_due.true))
    ] in
    let one : c.if-not-any.value ≡ true = elim c.if-self-one_up.branch [
      | then-self-one_up w ↦ w.if-self-one_up.true
      | else-self-one_up w ↦ absurd (not-false (sym w.if-self-one_up.false ∙ sym w.value-is ∙ two))
    ] in
    let none : c.if-are_idle.value ≡ true = elim c.if-not-any.branch [
      | then-not-any w ↦ w.if-not-any.true
      | else-not-any w ↦ absurd (not-false (sym w.if-not-any.false ∙ sym w.value-is ∙ one))
    ] in
    let idle : c.if-stays.value ≡ true = elim c.if-are_idle.branch [
      | then-are_idle w ↦ w.if-are_idle.true
      | else-are_idle w ↦ absurd (not-false (sym w.if-are_idle.false ∙ sym w.value-is ∙ none))
    ] in
    let stays : c.if-self.value ≡ true = elim c.if-stays.branch [
      | then-stays w ↦ w.if-stays.true
      | else-stays w ↦ absurd (not-false (sym w.if-stays.false ∙ sym w.value-is ∙ idle))
    ] in
    let calm : c.args.self.now.calm ≡ true = elim c.if-self.branch [
      | then-self w ↦ w.if-self.true
      | else-self w ↦ absurd (not-false (sym w.if-self.false ∙ sym w.value-is ∙ stays))
    ] in
    record {
      calm = c.requires.fits.calm calm;
      dues = elim c.if-self-two_up.branch [
        | then-self-two_up w ↦ w.none_due.ensures (sym w.value-is ∙ c.if-none_due.true)
        | else-self-two_up w ↦ absurd (not-false (sym w.if-self-two_up.false ∙ sym w.value-is ∙ c.if-none_due.true))
      ];
      pressed = elim c.if-stays.branch [
        | then-stays w ↦ w.are_idle.ensures.pressed (sym w.value-is ∙ idle)
        | else-stays w ↦ absurd (not-false (sym w.if-stays.false ∙ sym w.value-is ∙ idle))
      ];
      rcl = elim c.if-stays.branch [
        | then-stays w ↦ w.are_idle.ensures.rcl (sym w.value-is ∙ idle)
        | else-stays w ↦ absurd (not-false (sym w.if-stays.false ∙ sym w.value-is ∙ idle))
      ];
      all = elim c.if-stays.branch [
        | then-stays w ↦ w.are_idle.ensures.all (sym w.value-is ∙ idle)
        | else-stays w ↦ absurd (not-false (sym w.if-stays.false ∙ sym w.value-is ∙ idle))
      ];
      before = elim c.if-are_idle.branch [
        | then-are_idle w ↦ w.any.ensures (from-not w.any.result (sym w.value-is ∙ none))
        | else-are_idle w ↦ absurd (not-false (sym w.if-are_idle.false ∙ sym w.value-is ∙ none))
      ];
    }
