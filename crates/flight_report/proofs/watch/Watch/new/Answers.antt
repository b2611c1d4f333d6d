use Rattle.std.proofs.Common.{refl, ◌∙◌, rules}
use Rattle.flight_report.proofs.Ticking.{watch-first}
use Rattle.flight_report.proofs.watch.Watch.new.Goals as goal

pub returns-clause-stands : goal.returns-clause-stands
returns-clause-stands c = λ up phases.
    watch-first c.args.alerts c.args.alerts up phases _ refl (c.into_boxed_slice.ensures.items ∙ c.in_ok-up.ensures.items_if_clones_equal (λ y same. search rules)) refl
