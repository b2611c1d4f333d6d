use Rattle.std.proofs.Common.{length, refl, sym, ◌∙◌, ap, subst}
use Rattle.ecam_spec.specs.History.{Era}
use Rattle.ecam_spec.specs.Situation.{value_in}
use Rattle.ecam_spec.proofs.HistoryLaws.{era_nil}
use Rattle.ecam_spec.specs.Replay.{tick_count}
use Rattle.view_spec.specs.Advisories.{rows_before}
use Rattle.advisories.specs.View.{list_of}
use Rattle.advisories.specs.Watches.{AreWatched}
use Rattle.advisories.proofs.Told.{rest-all}
use Rattle.advisories.proofs.view.Advisories.new.Goals as goal

pub returns-clause-settings : goal.returns-clause-settings
returns-clause-settings c = c.in_ok-watches.ensures.advisories ∙ ap list_of c.deref.ensures.value

pub returns-clause-stands : goal.returns-clause-stands
unfolding tick_count rows_before
returns-clause-stands c b = record {
  ticks = refl;
  panel = c.blank.ensures;
  watches = λ up m goes.
      subst (λ n. AreWatched (value_in b m) n c.in_ok-watches.watches.items) (sym (ap (λ (e : Era). length e.moments) era_nil))
      (subst (AreWatched (value_in b m) 0) c.in_ok-watches.ensures.rest (rest-all (value_in b m) c.in_ok-watches.watches.items));
}
