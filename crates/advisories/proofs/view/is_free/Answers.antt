use Rattle.std.proofs.Common.{suc, ◌&&◌, ◌∙◌, sym, ap}
use Rattle.ecam_spec.specs.Screen.{panel}
use Rattle.ecam_spec.specs.Selection.{choice}
use Rattle.view_spec.specs.Advisories.{is_automatic, is_free}
use Rattle.advisories.proofs.view.is_free.Goals as goal

pub returns-then-shows_nothing : goal.returns-then-shows_nothing
unfolding is_free
returns-then-shows_nothing c b m k stands =
    c.is_automatic.ensures
    ∙ ap is_automatic (c.choice.ensures.choice (panel b m) (suc k) stands.selector)
    ∙ sym (ap (λ e. e && is_automatic (choice (panel b m) k)) (sym (c.shows_nothing.ensures b m k stands) ∙ c.if-shows_nothing.true))

pub returns-else-shows_nothing : goal.returns-else-shows_nothing
unfolding is_free
returns-else-shows_nothing c b m k stands =
    c.if-shows_nothing.false
    ∙ sym (ap (λ e. e && is_automatic (choice (panel b m) k)) (sym (c.shows_nothing.ensures b m k stands) ∙ c.if-shows_nothing.false))
