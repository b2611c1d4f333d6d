use Rattle.std.proofs.Common.{refl, ap, sym, ◌∙◌}
use Rattle.std.specs.Option.{option_or}
use Rattle.system_display.specs.Selecting.{page_of_all}
use Rattle.system_display.proofs.Selections.{page-shown, none-shown}
use Rattle.system_display.proofs.selection.Selection.next.Goals as goal

pub returns-in-Some-clause-selection : goal.returns-in-Some-clause-selection
returns-in-Some-clause-selection c = λ p k old is turn.
    page-shown p k _ c.in-Some.page
    (ap (option_or (page_of_all p k)) is.page_called ∙ ap (λ o. option_or o c.args.inputs.now.page_called) (sym turn) ∙ sym c.or.ensures ∙ c.in-Some.is)
    refl refl

pub returns-in-None-clause-selection : goal.returns-in-None-clause-selection
returns-in-None-clause-selection c = λ p k old is turn.
    c.next_by_keys.ensures.selection p k old is
    (none-shown p k (ap (option_or (page_of_all p k)) is.page_called ∙ ap (λ o. option_or o c.args.inputs.now.page_called) (sym turn) ∙ sym c.or.ensures ∙ c.in-None.is))

pub returns-in-None-clause-choice : goal.returns-in-None-clause-choice
returns-in-None-clause-choice c = c.next_by_keys.ensures.choice c.args.inputs.now.pages c.requires.choice
