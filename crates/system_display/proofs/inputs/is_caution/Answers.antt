use Rattle.std.proofs.Common.{◌≡◌, ◌<◌, length, arith, not, refl, sym, ap, ◌∙◌}
use Rattle.ecam_spec.specs.declared.kinds.Level.{Level}
use Rattle.ecam_spec.specs.declared.kinds.Level.TheVariants.{One, Two, Three}
use Rattle.ecam_spec.specs.contracts.kinds.Level.{the_type}
use Rattle.ecam_spec.specs.Levels.{is_caution_level}
use Rattle.book_model.specs.Sealed.{the_book}
use Rattle.system_display.specs.Panels.{is_caution_target}
use Rattle.book_model.proofs.BookReads.{alert-read}
use Rattle.system_display.proofs.inputs.is_caution.Goals as goal
use denote.Enum.Bare.{sameb}

other-than-three : (l : Level) → not (sameb the_type l Three) ≡ is_caution_level l
other-than-three One = refl
other-than-three Two = refl
other-than-three Three = refl

pub returns-in-Some : goal.returns-in-Some
returns-in-Some c =
    let d = c.args.book.now in
    let within : c.in-Some.alert < length d.alerts.items = rw c.in-Some.is at c.requires in
    let read = alert-read d c.alerts.result.now c.in-Some.alert c.index-alerts-alert.result c.alerts.ensures.value (omega (arith, ap length c.alerts.ensures.value, within)) c.index-alerts-alert.is in
    c.ne.ensures ∙ ap (λ x. not (sameb the_type x.level Three)) (sym c.index-alerts-alert.is)
    ∙ other-than-three c.index-alerts-alert.result.level
    ∙ ap (λ a. is_caution_level a.level) (sym read)
    ∙ ap (is_caution_target (the_book d)) (sym c.in-Some.is)
