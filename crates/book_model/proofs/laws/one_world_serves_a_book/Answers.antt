use Rattle.std.proofs.Common.{◌≡◌, false, refl, sym, ap, ◌∙◌}
use Rattle.std.proofs.lemmas.Option.{slice_get_within, get_or_from_slice_get}
use Rattle.ecam_spec.specs.DraftFaults.{has_atom, asks_alert_from}
use Rattle.ecam_spec.specs.Alert.{present}
use Rattle.ecam_spec.specs.Situation.{alert_at, world}
use Rattle.ecam_spec.specs.Term.{holds}
use Rattle.ecam_spec.proofs.WorldLaws.{flight_like_world, present_by_world}
use Rattle.book_model.specs.Sealed.{the_book, alert_in}
use Rattle.book_model.proofs.BookReads.{alert-read}
use Rattle.book_model.proofs.ConditionNames.{phase-asks, own-asks}
use Rattle.book_model.proofs.laws.one_world_serves_a_book.Goals as goal

pub returns-clause-inputs : goal.returns-clause-inputs
returns-clause-inputs c = λ d sealed j t is moments k. flight_like_world (the_book d) moments t k (phase-asks d sealed j t is)

pub returns-clause-alerts : goal.returns-clause-alerts
returns-clause-alerts c = λ d sealed a x is moments k.
    let b = the_book d in
    let within = slice_get_within d.alerts.items a x is in
    let here = sym (get_or_from_slice_get d.alerts.items a x x is) in
    let read : alert_at b a ≡ alert_in d x = alert-read d d.alerts.items a x refl within here in
    let asks : has_atom (asks_alert_from a) (alert_at b a).when ≡ false =
    ap (λ al. has_atom (asks_alert_from a) al.when) read ∙ own-asks d sealed d.alerts.items a x refl within here in
    present_by_world b moments a k asks ∙ ap (λ al. present al.confirm (holds (world b moments) al.when) k) read
