use Rattle.std.proofs.Common.{◌+◌, ◌∙◌, refl}
use Rattle.ecam_spec.specs.Selection.{last_number}
use Rattle.std.proofs.Math.Nat.{min_comm}
use Rattle.system_display.proofs.Selections.{status-shown, cleared, cancel-shown, same-shown}
use Rattle.system_display.proofs.selection.Selection.next_by_keys.Goals as goal

pub returns-then-inputs-clause-selection : goal.returns-then-inputs-clause-selection
returns-then-inputs-clause-selection c = λ p k old is none.
    status-shown p k none c.args.self _ old (is.sts ∙ c.if-inputs.true) refl (c.saturating_add.ensures ∙ min_comm (c.args.self.next_status + 1) last_number)

pub returns-then-inputs-2-clause-selection : goal.returns-then-inputs-2-clause-selection
returns-then-inputs-2-clause-selection c = λ p k old is none.
    cleared p k none c.new.result (is.sts ∙ c.if-inputs.false) (is.clr ∙ c.if-inputs-2.true) (c.new.ensures.selection p)

pub returns-then-inputs-3-clause-selection : goal.returns-then-inputs-3-clause-selection
returns-then-inputs-3-clause-selection c = λ p k old is none.
    cancel-shown p k none _ (is.sts ∙ c.if-inputs.false) (is.clr ∙ c.if-inputs-2.false) (is.cancels ∙ c.if-inputs-3.true) refl refl

pub returns-clause-selection : goal.returns-clause-selection
returns-clause-selection c = λ p k old is none.
    same-shown p k none c.args.self (is.sts ∙ c.if-inputs.false) (is.clr ∙ c.if-inputs-2.false) (is.cancels ∙ c.if-inputs-3.false) old

pub returns-then-inputs-2-clause-choice : goal.returns-then-inputs-2-clause-choice
returns-then-inputs-2-clause-choice c = λ pages old. c.new.ensures.choice pages
