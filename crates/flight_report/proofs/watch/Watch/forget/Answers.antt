use Rattle.std.proofs.Common.{length, refl, sym, ◌∙◌, ap, rules}
use Rattle.std.proofs.lemmas.List.{with_items_is}
use Rattle.flight_report.proofs.Ticking.{watch-first}
use Rattle.flight_report.proofs.watch.Watch.forget.Goals as goal

pub returns-clause-stands : goal.returns-clause-stands
returns-clause-stands c = λ n up phases fits.
    let long = c.fill.ensures.len ∙ ap length c.as_mut_slice.ensures.value in
    watch-first n (length c.as_mut_slice.result.now) up phases _ refl
    (with_items_is c.args.self.now.up.items c.fill.new.self (long ∙ sym c.args.self.now.up.items.ok.0) ∙ c.fill.ensures.after (λ y same. search rules))
    (ap length c.as_mut_slice.ensures.value ∙ fits)
