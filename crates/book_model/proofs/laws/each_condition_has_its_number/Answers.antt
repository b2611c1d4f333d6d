use Rattle.std.proofs.Common.{◌≡◌, ℕ, ◌<◌, List, length, get_or, slice_get, Some, refl, sym}
use Rattle.std.proofs.lemmas.Option.{slice_get_within, get_or_from_slice_get}
use Rattle.book_model.proofs.ConditionPlaces.{phase-place, own-place, line-when, line-done, memo-place-at, all-places}
use Rattle.book_model.proofs.laws.each_condition_has_its_number.Goals as goal

inside : {X : Type 0} (xs : List X) (i : ℕ) (x : X) → slice_get xs i ≡ Some x → i < length xs
inside xs i x is = slice_get_within xs i x is

there : {X : Type 0} (xs : List X) (i : ℕ) (x : X) → slice_get xs i ≡ Some x → x ≡ get_or xs i x
there xs i x is = sym (get_or_from_slice_get xs i x x is)

pub returns-clause-inputs : goal.returns-clause-inputs
returns-clause-inputs c = phase-place

pub returns-clause-alerts : goal.returns-clause-alerts
returns-clause-alerts c = λ d sealed a x is. own-place d sealed d.alerts.items a x refl (inside d.alerts.items a x is) (there d.alerts.items a x is)

pub returns-clause-lines : goal.returns-clause-lines
returns-clause-lines c = λ d sealed a j x l is own. (
  line-when d sealed d.alerts.items a x refl (inside d.alerts.items a x is) (there d.alerts.items a x is) x.lines.items j l refl (inside x.lines.items j l own) (there x.lines.items j l own),
  line-done d sealed d.alerts.items a x refl (inside d.alerts.items a x is) (there d.alerts.items a x is) x.lines.items j l refl (inside x.lines.items j l own) (there x.lines.items j l own),
)

pub returns-clause-memos : goal.returns-clause-memos
returns-clause-memos c = λ d sealed j x is. memo-place-at d sealed d.memos.items j x refl (inside d.memos.items j x is) (there d.memos.items j x is)

pub returns-clause-count : goal.returns-clause-count
returns-clause-count c = all-places
