use Rattle.std.proofs.Common.{[], ◌∷◌, ◌++◌, sym, ◌∙◌, ap, cond, take}
use Rattle.view_spec.specs.declared.flight_report.TheConstants.{ENTRIES}
use Rattle.flight_report.proofs.Entries.{first-more}
use Rattle.flight_report.proofs.flight.Flight.add_if.Goals as goal

pub returns-then-comes-clause-entries : goal.returns-then-comes-clause-entries
returns-then-comes-clause-entries c = λ es is.
    let p = c.try_push.ensures in
    first-more c.try_push.result es c.args.self.now.entries c.try_push.new.self c.args.entry is p.variant.0 p.ok p.full p.err
    ∙ ap (λ b. take ENTRIES (es ++ cond b (c.args.entry ∷ []) [])) (sym c.if-comes.true)
