use Rattle.std.proofs.Common.{◌≡◌, ◌&&◌, ℕ, Bool, false, get_or, sym, ◌∙◌}
use Rattle.view_spec.specs.Callouts.{heights, is_at_most}
use Rattle.callouts.proofs.InOrder.{find-next, flag-at}
use Rattle.callouts.proofs.state.Callouts.least_crossed.Goals as goal

pub loop-i-preserved : goal.loop-i-preserved
loop-i-preserved c armed is =
    let crossed : ℕ → Bool = λ h. is_at_most h c.args.value && armed h in
    let flag = flag-at c.args.self.now.armed armed c.loop-i.i c.loop-i-test.true is in
    let missed : crossed (get_or heights c.loop-i.i 0) ≡ false =
    rw (sym flag, sym c.height.ensures.height) (sym c.is_crossed.ensures ∙ c.if-is_crossed.false) in
    find-next crossed c.loop-i.i c.loop-i-test.true missed ∙ c.loop-i.invariant armed is
