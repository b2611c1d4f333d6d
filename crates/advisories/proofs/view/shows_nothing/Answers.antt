use Rattle.std.proofs.Common.{◌≡◌, ℕ, List, [], ◌∷◌, refl, ◌∙◌, ap}
use Rattle.std.specs.Prelude.{is_none}
use Rattle.ecam_spec.specs.Places.{first_in}
use Rattle.ecam_spec.specs.Crew.{target, shown}
use Rattle.ecam_spec.specs.Screen.{cockpit, shown_in}
use Rattle.view_spec.specs.Advisories.{is_empty}
use Rattle.advisories.proofs.view.shows_nothing.Goals as goal

none-first : (xs : List ℕ) → is_none (first_in xs) ≡ is_empty xs
none-first [] = refl
none-first (x ∷ xs) = refl

pub returns : goal.returns
unfolding shown_in target
returns c b m k stands =
    c.is_absent.ensures ∙ ap is_none (c.first.ensures.value ∙ stands.marks.first) ∙ none-first (shown (cockpit b m) k)
