use Rattle.std.proofs.Common.{◌≡◌, suc, ◌+◌, None, sym, ◌∙◌, ap, add-one}
use Rattle.std.specs.Option.{option_or}
use Rattle.system_display.specs.Selecting.{IsSelection, page_of_all}
use Rattle.system_display.proofs.Selections.{none-shown, same-shown}
use Rattle.system_display.proofs.Stretches.{start-off, page-off}
use Rattle.system_display.proofs.selector.Selector.pass.Goals as goal

pub returns-clause-stands : goal.returns-clause-stands
returns-clause-stands c = λ p k nothing stands.
    let off = start-off p.all_held k nothing.all_held in
    let none : option_or (page_of_all p k) (p.page_called k) ≡ None = ap (λ o. option_or o (p.page_called k)) (page-off p k off) ∙ nothing.page_called in
    let selection : IsSelection p (suc k) c.args.self.now.selection =
    same-shown p k (none-shown p k none) c.args.self.now.selection nothing.sts nothing.clr nothing.cancels stands.selection in
    record {
      moments = ap (λ n. n + 1) stands.moments ∙ add-one k;
      all_since = c.requires.all_since ∙ sym off;
      selection = selection;
      changed = (λ e. sym selection.choice ∙ stands.selection.choice, λ same. c.requires.changed);
    }
