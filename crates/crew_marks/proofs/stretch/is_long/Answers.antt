use Rattle.std.proofs.Common.{◌-◌, false, leb, sym, ◌∙◌, ap}
use Rattle.std.specs.Option.{option_map_or}
use Rattle.ecam_spec.proofs.PastRuns.{historically_within-running}
use Rattle.crew_marks.proofs.stretch.is_long.Goals as goal

pub returns-in-Some : goal.returns-in-Some
returns-in-Some c = λ p k now since.
    ap (leb 29) (c.saturating_sub.ensures ∙ ap (λ n. n - c.in-Some.start) now)
    ∙ sym (historically_within-running 29 p k ∙ ap (λ o. option_map_or (λ s. leb 29 (k - s)) o false) (sym since ∙ c.in-Some.is))

pub returns-in-None : goal.returns-in-None
returns-in-None c = λ p k now since.
    sym (historically_within-running 29 p k ∙ ap (λ o. option_map_or (λ s. leb 29 (k - s)) o false) (sym since ∙ c.in-None.is))
