use Rattle.std.proofs.Common.{◌≡◌, true, false, sym, ◌∙◌}
use Rattle.fwc_lane.proofs.lane.Lane.idles.Goals.{then-self, else-self, then-self-one_up, else-self-one_up}
use Rattle.fwc_lane.proofs.lane.Lane.idles.Goals as goal

pub returns-then-none_due-clause-rest : goal.returns-then-none_due-clause-rest
returns-then-none_due-clause-rest c on =
    let not-false : false ≡ true → ⊥ = λ e. (let clash : false ≡ true = e in cc) in
    let both : c.if-self.value ≡ true = elim c.if-self-one_up.branch [
      | then-self-one_up w ↦ w.if-self-one_up.true
      | else-self-one_up w ↦ absurd (not-false (sym w.if-self-one_up.false ∙ sym w.value-is ∙ c.if-none_due.true))
    ] in
    let idle : c.args.self.now.idle ≡ true = elim c.if-self.branch [
      | then-self w ↦ w.if-self.true
      | else-self w ↦ absurd (not-false (sym w.if-self.false ∙ sym w.value-is ∙ both))
    ] in
    let kept = c.requires.fits.idle idle in
    record {
      calm = kept.calm;
      dues = elim c.if-self-one_up.branch [
        | then-self-one_up w ↦ w.none_due.ensures (sym w.value-is ∙ c.if-none_due.true)
        | else-self-one_up w ↦ absurd (not-false (sym w.if-self-one_up.false ∙ sym w.value-is ∙ c.if-none_due.true))
      ];
      pressed = kept.pressed;
      rcl = kept.rcl;
      all = kept.all;
      before = kept.before;
    }
