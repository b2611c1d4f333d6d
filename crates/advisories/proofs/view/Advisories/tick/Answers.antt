use Rattle.std.proofs.Common.{◌≡◌, true, List, [], ◌∷◌, ◌++◌, sym, ◌∙◌, ap, subst}
use Rattle.ecam_spec.specs.declared.kinds.Event.{Event}
use Rattle.ecam_spec.specs.declared.kinds.Event.TheVariants.{Tick}
use Rattle.ecam_spec.specs.Book.{Book}
use Rattle.ecam_spec.specs.History.{era}
use Rattle.view_spec.specs.Ticks.{is_up}
use Rattle.view_spec.specs.Advisories.{Fit, rows_at}
use Rattle.book_model.specs.Sealed.{the_book}
use Rattle.advisories.specs.declared.watches.Watch.{Watch}
use Rattle.advisories.specs.State.{StandInEra}
use Rattle.advisories.specs.Watches.{all_watched}
use Rattle.advisories.proofs.Lent.{same-watched}
use Rattle.advisories.proofs.view.Advisories.tick.Goals as goal

-- what is so of the list of the view is so of the part that is lent
module _ (b : Book) (h : List Event) (lent ws : List Watch) (same : lent ≡ ws) where
  stood : (is_up h ≡ true → StandInEra b (era h) ws) → is_up h ≡ true → StandInEra b (era h) lent
  stood stand up = subst (StandInEra b (era h)) (sym same) (stand up)

pub step_by-panel-requires-clause-fit : goal.step_by-panel-requires-clause-fit
step_by-panel-requires-clause-fit c = subst (λ l. Fit (the_book c.args.book.now) (all_watched l)) (sym c.deref_mut.ensures.value) c.requires.fit

pub returns-clause-settings : goal.returns-clause-settings
returns-clause-settings c =
    ap all_watched (same-watched c.args.self.now.watches c.step_by-panel.new.watches c.deref_mut.result.now c.deref_mut.ensures.value c.step_by-panel.ensures.settings)
    ∙ c.step_by-panel.ensures.settings ∙ ap all_watched c.deref_mut.ensures.value

pub returns-clause-panel : goal.returns-clause-panel
returns-clause-panel c h pair stand =
    let b = the_book c.args.book.now in
    let lent = c.deref_mut.result.now in
    let ws = c.args.self.now.watches.items in
    c.step_by-panel.ensures.rows h pair (stood b h lent ws c.deref_mut.ensures.value stand)
    ∙ ap (λ l. rows_at b (all_watched l) (h ++ Tick ∷ [])) c.deref_mut.ensures.value

pub returns-clause-stands : goal.returns-clause-stands
returns-clause-stands c h pair stand up =
    let b = the_book c.args.book.now in
    let lent = c.deref_mut.result.now in
    let ws = c.args.self.now.watches.items in
    subst (StandInEra b (era (h ++ Tick ∷ [])))
    (sym (same-watched c.args.self.now.watches c.step_by-panel.new.watches lent c.deref_mut.ensures.value c.step_by-panel.ensures.settings))
    (c.step_by-panel.ensures.stands h pair (stood b h lent ws c.deref_mut.ensures.value stand) up)
