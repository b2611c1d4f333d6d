use Rattle.std.proofs.Common.{sym, ◌∙◌, ap, cond}
use Rattle.attention.specs.Watches.{acknowledged, onset_after}
use Rattle.attention.specs.declared.watch.Watch.{Watch}
use Rattle.attention.proofs.Onsets.{onset-opens, onset-stays}
use Rattle.attention.proofs.watch.Watch.next_onset.Goals as goal

pub returns-then-comes_up : goal.returns-then-comes_up
returns-then-comes_up c = λ a i k up pressed now was.
    onset-opens a i k c.args.now c.args.up c.args.self.up up (ap (λ (w : Watch). w.up) was) now (sym c.comes_up.ensures ∙ c.if-comes_up.true)

pub returns-then-pressed : goal.returns-then-pressed
returns-then-pressed c = λ a i k up pressed now was.
    let stays = onset-stays a i k c.args.up c.args.self.up up (ap (λ (w : Watch). w.up) was) (sym c.comes_up.ensures ∙ c.if-comes_up.false) in
    c.acknowledged.ensures
    ∙ ap (λ (w : Watch). acknowledged w.onset) was
    ∙ sym (stays ∙ ap (λ b. cond b (acknowledged (onset_after a i k)) (onset_after a i k)) (sym pressed ∙ c.if-pressed.true))

pub returns : goal.returns
returns c = λ a i k up pressed now was.
    let stays = onset-stays a i k c.args.up c.args.self.up up (ap (λ (w : Watch). w.up) was) (sym c.comes_up.ensures ∙ c.if-comes_up.false) in
    ap (λ (w : Watch). w.onset) was
    ∙ sym (stays ∙ ap (λ b. cond b (acknowledged (onset_after a i k)) (onset_after a i k)) (sym pressed ∙ c.if-pressed.false))
