use Rattle.std.proofs.Common.{sym, ◌∙◌, ap, map, subst}
use Rattle.ecam_spec.specs.History.{begun}
use Rattle.advisories.specs.State.{StandInEra}
use Rattle.advisories.specs.Watches.{all_watched, rested}
use Rattle.advisories.proofs.Lent.{mapped-back}
use Rattle.advisories.proofs.Told.{rest-watched, rest-all}
use Rattle.advisories.proofs.Eras.{stand-on, stand-anew}
use Rattle.advisories.proofs.view.Advisories.begin.Goals as goal

pub returns-then-fresh-clause-settings : goal.returns-then-fresh-clause-settings
returns-then-fresh-clause-settings c =
    let v = c.args.self.now.watches in
    ap all_watched (mapped-back v c.rest.new.watches rested (c.rest.ensures ∙ ap (map rested) c.deref_mut.ensures.value)) ∙ rest-watched v.items

pub returns-then-fresh-clause-stands : goal.returns-then-fresh-clause-stands
returns-then-fresh-clause-stands c b h e fresh up stand =
    let v = c.args.self.now.watches in
    subst (StandInEra b (begun h e)) (sym (mapped-back v c.rest.new.watches rested (c.rest.ensures ∙ ap (map rested) c.deref_mut.ensures.value)))
    (stand-anew h e b (map rested v.items) (sym fresh ∙ c.if-fresh.true) (λ values. rest-all values v.items))

pub returns-else-fresh-clause-stands : goal.returns-else-fresh-clause-stands
returns-else-fresh-clause-stands c b h e fresh up stand =
    stand-on h e b c.args.self.now.watches.items (sym fresh ∙ c.if-fresh.false) up stand
