use Rattle.std.proofs.Common.{sym, ap, ◌∙◌}
use Rattle.ecam_spec.specs.Screen.{display}
use Rattle.ecam_spec.specs.SystemDisplay.{page_rows, display_rows}
use Rattle.system_display.proofs.laws.the_rows_are_those_of_the_choice.Goals as goal

pub returns-clause-called : goal.returns-clause-called
unfolding display_rows
returns-clause-called c = λ b m k page chosen called.
    ap (page_rows (display b m k)) called ∙ sym (ap (display_rows (display b m k)) chosen)

pub returns-clause-selected : goal.returns-clause-selected
unfolding display_rows display
returns-clause-selected c = λ b m k page chosen. sym (ap (display_rows (display b m k)) chosen)

pub returns-clause-status : goal.returns-clause-status
unfolding display_rows display
returns-clause-status c = λ b m k page chosen. sym (ap (display_rows (display b m k)) chosen)
