use Rattle.std.proofs.Common.{◌∙◌, ap, sym, Some}
use Rattle.std.specs.Prelude.{unwrap_or}
use Rattle.system_display.proofs.Stretches.{start-on, start-off}
use Rattle.system_display.proofs.selector.Selector.held_since.Goals as goal

pub returns-then-held : goal.returns-then-held
returns-then-held c = λ q held since.
    ap Some (c.unwrap_or.ensures ∙ ap (λ o. unwrap_or o c.args.self.now.moments) since)
    ∙ sym (start-on q c.args.self.now.moments (sym held ∙ c.if-held.true))

pub returns-else-held : goal.returns-else-held
returns-else-held c = λ q held since. sym (start-off q c.args.self.now.moments (sym held ∙ c.if-held.false))
