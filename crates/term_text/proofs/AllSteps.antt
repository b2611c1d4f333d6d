-- What the steps of a text leave, one after the other.
use Rattle.std.proofs.Common.{◌≡◌, ℕ, ◌+◌, ◌-◌, ◌<◌, ◌≤◌, List, [], ◌∷◌, ◌++◌, length, get_or, drop, Option, Some, None, refl, subst}
use Rattle.std.proofs.lemmas.List.{drop_more, drop_all}
use Rattle.std.specs.Prelude.{option_map, option_and_then}
use Rattle.ecam_spec.specs.Book.{Text}
use Rattle.ecam_spec.specs.declared.terms.Span.{Span}
use Rattle.ecam_spec.specs.declared.term_steps.Connective.{Connective}
use Rattle.ecam_spec.specs.declared.term_steps.Connective.TheVariants as lists
use Rattle.ecam_spec.specs.declared.term_steps.Step.{Step}
use Rattle.ecam_spec.specs.declared.term_steps.Step.TheVariants as steps
use Rattle.ecam_spec.specs.Grammar.{Form, Forms, truth, name_of, compare_of, valid_of, phase_of, alert_of, press_of, fwc_of, not_of, rise_of, all_of, any_of, at_least_of, conf_of, hold_of, latch_of, no_more}
use Rattle.ecam_spec.specs.TermText.{TermNames}
use Rattle.ecam_spec.proofs.TermReading.{gathered, list_form, after_step, after_all}
use Rattle.term_text.specs.declared.part.Part.{Part}
use Rattle.term_text.specs.Parts.{StandFor, last_name, IsLastName}

-- the conditions so far stand for some forms, of which a name by itself is the last one, and which the other steps
-- bring to the last ones
pub record Reaches (names : TermNames) (text : Text) (ps : List Part) (name : Span) (left : List Step) (last : List Form) : Type 0 where
  pub forms : List Form
  pub stand : StandFor names text ps forms
  pub named : IsLastName name forms
  pub goes_on : after_all left forms ≡ Some last

-- a step that leaves another condition than a name by itself on top
other : (name : Span) (f : Form) (older after : List Form) → Some (f ∷ older) ≡ Some after → IsLastName name (f ∷ older) → IsLastName name after
other name f older after e is = let same : f ∷ older ≡ after = cc in subst (IsLastName name) same is

listed : (name : Span) (list : Connective) (o : Option (Form × Forms × List Form)) (after : List Form) → option_map (λ g. list_form list g.0 g.1 ∷ g.2) o ≡ Some after → IsLastName name after
listed name list None after e = absurd cc
listed name lists.All (Some (f, fs, older)) after e = other name (all_of f fs) older after e tt
listed name lists.Any (Some (f, fs, older)) after e = other name (any_of f fs) older after e tt
listed name (lists.AtLeast n) (Some (f, fs, older)) after e = other name (at_least_of n f fs) older after e tt

-- after each step, a name by itself on top is the last one
pub still_named : (name : Span) (s : Step) (forms after : List Form) → after_step s forms ≡ Some after → IsLastName (last_name s name) after
unfolding after_step
still_named name (steps.Constant b) forms after e = other name (truth b) forms after e tt
still_named name (steps.Named n) forms after e = other n (name_of n) forms after e refl
still_named name (steps.Compared op x) (name_of n ∷ older) after e = other name (compare_of n op x) older after e tt
still_named name (steps.Compared op x) _ after e = absurd cc
still_named name (steps.Valid n) forms after e = other name (valid_of n) forms after e tt
still_named name (steps.Alerted n) forms after e = other name (alert_of n) forms after e tt
still_named name (steps.Pressed key) forms after e = other name (press_of key) forms after e tt
still_named name (steps.Computer n) forms after e = other name (fwc_of n) forms after e tt
still_named name (steps.Phase n) forms after e = other name (phase_of n []) forms after e tt
still_named name (steps.AlsoPhase m) (phase_of n ns ∷ older) after e = other name (phase_of n (ns ++ m ∷ [])) older after e tt
still_named name (steps.AlsoPhase m) _ after e = absurd cc
still_named name steps.Negation (f ∷ older) after e = other name (not_of f) older after e tt
still_named name steps.Negation [] after e = absurd cc
still_named name steps.Risen (f ∷ older) after e = other name (rise_of f) older after e tt
still_named name steps.Risen [] after e = absurd cc
still_named name (steps.Over list count) forms after e = listed name list (gathered (count - 1) no_more forms) after e
still_named name (steps.Confirmed n) (f ∷ older) after e = other name (conf_of f n) older after e tt
still_named name (steps.Confirmed n) [] after e = absurd cc
still_named name (steps.Held n) (f ∷ older) after e = other name (hold_of f n) older after e tt
still_named name (steps.Held n) [] after e = absurd cc
still_named name steps.Latched (r ∷ s ∷ older) after e = other name (latch_of s r) older after e tt
still_named name steps.Latched _ after e = absurd cc

module _ (names : TermNames) (text : Text) where
  -- what a step makes of conditions that stand for forms
  abbrev pub Makes : List Part → List Part → Span → Step → Type 0
  Makes ps ps2 name s = (forms after : List Form) → StandFor names text ps forms → IsLastName name forms → after_step s forms ≡ Some after → StandFor names text ps2 after

  stepped : (ps ps2 : List Part) (name : Span) (s : Step) (left : List Step) (forms last : List Form) (next : Option (List Form)) → after_step s forms ≡ next → option_and_then (after_all left) next ≡ Some last
      → Makes ps ps2 name s → StandFor names text ps forms → IsLastName name forms → Reaches names text ps2 (last_name s name) left last
  stepped ps ps2 name s left forms last None e goes_on made stand named = absurd cc
  stepped ps ps2 name s left forms last (Some after) e goes_on made stand named =
      record { forms = after; stand = made forms after stand named e; named = still_named name s forms after e; goes_on = goes_on }

  pub step_made : (ps ps2 : List Part) (name : Span) (d : Step) (steps : List Step) (i : ℕ) (last : List Form) → i < length steps → Makes ps ps2 name (get_or steps i d)
      → Reaches names text ps name (drop i steps) last → Reaches names text ps2 (last_name (get_or steps i d) name) (drop (i + 1) steps) last
  unfolding after_all
  step_made ps ps2 name d steps i last within made r =
      stepped ps ps2 name (get_or steps i d) (drop (i + 1) steps) r.forms last (after_step (get_or steps i d) r.forms) refl
      (subst (λ (ss : List Step). after_all ss r.forms ≡ Some last) (drop_more steps i d within) r.goes_on) made r.stand r.named

  pub steps_made : (ps : List Part) (name : Span) (steps : List Step) (i : ℕ) (last : List Form) → length steps ≤ i → Reaches names text ps name (drop i steps) last → StandFor names text ps last
  unfolding after_all
  steps_made ps name steps i last past r =
      let same : Some r.forms ≡ Some last = subst (λ (ss : List Step). after_all ss r.forms ≡ Some last) (drop_all i steps past) r.goes_on in
      let is : r.forms ≡ last = cc in
      subst (λ (fs : List Form). StandFor names text ps fs) is r.stand
