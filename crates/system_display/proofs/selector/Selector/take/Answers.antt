use Rattle.std.proofs.Common.{◌≡◌, ℕ, suc, ◌∙◌, add-one, sym, subst}
use Rattle.system_display.specs.Panels.{AreInputs}
use Rattle.ecam_spec.specs.Past.{running_since}
use Rattle.system_display.specs.Selecting.{IsSelection, Stands}
use Rattle.system_display.proofs.selector.Selector.take.Goals as goal

pub returns-clause-stands : goal.returns-clause-stands
returns-clause-stands c = λ p k stands is.
    let now = c.args.self.now.moments in
    let After : ℕ → Type 0 = λ k. Stands p k c.args.self.now → AreInputs p k c.args.inputs.now → Stands p (suc k) _ in
    subst After stands.moments (λ stands is.
    let since : c.held_since-since.result ≡ running_since p.all_held (suc now) = c.held_since-since.ensures p.all_held (sym is.all_held) stands.all_since in
    let selection : IsSelection p (suc now) c.next-selection.result =
    c.next-selection.ensures.selection p now stands.selection is (c.page_in_turn-turn.ensures.turn p is.pages since) in
    record {
      moments = add-one now;
      all_since = since;
      selection = selection;
      changed = (
        λ e. sym selection.choice ∙ c.differ-self.ensures.0 e ∙ stands.selection.choice,
        λ same. c.differ-self.ensures.1 (selection.choice ∙ same ∙ sym stands.selection.choice),
      );
    }) stands is
