use Rattle.std.proofs.Common.{Some, None}
use Rattle.ecam_spec.specs.Selection.{each_page, one_page, the_status, the_clear, the_cancel}
use Rattle.ecam_spec.proofs.SelectionSteps.{ahead_step}
use Rattle.ecam_spec.proofs.laws.selection.sts_shows_the_next_status_page.Goals as goal

pub returns-clause-none : goal.returns-clause-none
returns-clause-none c = λ p k e. ahead_step p k None e

pub returns-clause-sts : goal.returns-clause-sts
returns-clause-sts c = λ p k e. ahead_step p k (Some the_status) e

pub returns-clause-cancel : goal.returns-clause-cancel
returns-clause-cancel c = λ p k e. ahead_step p k (Some the_cancel) e

pub returns-clause-clear : goal.returns-clause-clear
returns-clause-clear c = λ p k e. ahead_step p k (Some the_clear) e

pub returns-clause-all : goal.returns-clause-all
returns-clause-all c = λ p k e. ahead_step p k (Some each_page) e

pub returns-clause-page : goal.returns-clause-page
returns-clause-page c = λ p i k e. ahead_step p k (Some (one_page i)) e
