use Rattle.std.proofs.Common.{refl, sym}
use Rattle.std.proofs.lemmas.Option.{slice_get_within, get_or_from_slice_get}
use Rattle.book_model.proofs.ConditionNames.{phase-names, own-names, memo-names}
use Rattle.book_model.proofs.laws.conditions_name_what_is_known.Goals as goal

pub returns-clause-inputs : goal.returns-clause-inputs
returns-clause-inputs c = phase-names

pub returns-clause-alerts : goal.returns-clause-alerts
returns-clause-alerts c = λ d sealed a x is.
    own-names d sealed d.alerts.items a x refl (slice_get_within d.alerts.items a x is) (sym (get_or_from_slice_get d.alerts.items a x x is))

pub returns-clause-memos : goal.returns-clause-memos
returns-clause-memos c = λ d sealed j x is.
    memo-names d sealed d.memos.items j x refl (slice_get_within d.memos.items j x is) (sym (get_or_from_slice_get d.memos.items j x x is))
