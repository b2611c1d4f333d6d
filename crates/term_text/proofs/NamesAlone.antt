-- What a name by itself stands for, and how that is judged.
use Rattle.std.proofs.Common.{◌≡◌, ℕ, true, false, List, [], ◌∷◌, Option, Some, None, unwrap_or, sym, ap, ◌∙◌, subst}
use Rattle.std.specs.Prelude.{is_some, option_map}
use Rattle.std.specs.Option.{option_or}
use Rattle.ecam_spec.specs.declared.terms.Span.{Span}
use Rattle.ecam_spec.specs.Book.{Text, Tree, constant, discrete}
use Rattle.ecam_spec.specs.Token.{bytes_of}
use Rattle.ecam_spec.specs.Grammar.{name_of}
use Rattle.ecam_spec.specs.TermText.{TermNames, Flaw, unknown_name, earliest, earlier, flaws, lone_flaw, name_place, tree_named, tree_of_name, tree_of_form}
use Rattle.term_text.specs.declared.part.Part.{Part}
use Rattle.term_text.specs.Parts.{Judges, JudgesForm}

module _ (names : TermNames) (text : Text) (n : Span) where
  -- a parameter's name is the parameter's, whatever else has it
  pub stands_for_parameter : (p : ℕ) → name_place names.parameters (bytes_of text n) ≡ Some p → tree_of_name names text n ≡ Some (discrete p)
  unfolding tree_of_name
  stands_for_parameter p e = ap (λ (o : Option ℕ). option_or (option_map (λ q. discrete q) o) (tree_named names.terms (bytes_of text n))) e

  pub stands_for_term : name_place names.parameters (bytes_of text n) ≡ None → (tree : Option Tree) → tree_named names.terms (bytes_of text n) ≡ tree → tree_of_name names text n ≡ tree
  unfolding tree_of_name
  stands_for_term none tree e = ap (λ (o : Option ℕ). option_or (option_map (λ q. discrete q) o) (tree_named names.terms (bytes_of text n))) none ∙ e

  pub no_lone_flaw : (tree : Tree) → tree_of_name names text n ≡ Some tree → lone_flaw names text n ≡ []
  unfolding lone_flaw
  no_lone_flaw tree e = ap (λ (o : Option Tree). elim (is_some o) as (λ v. List Flaw) [ true ↦ [] | false ↦ unknown_name n.at ∷ [] ]) e

  pub lone_tree : (tree : Tree) → tree_of_name names text n ≡ Some tree → tree_of_form names text (name_of n) ≡ tree
  unfolding tree_of_form
  lone_tree tree e = ap (λ (o : Option Tree). unwrap_or o (constant false)) e

  -- what is kept of the tree that the name stands for
  pub known_judged : (part : Part) (tree : Tree) → tree_of_name names text n ≡ Some tree → Judges part None tree → JudgesForm names text part (name_of n)
  unfolding flaws
  known_judged part tree e h =
      subst (λ (fs : List Flaw). Judges part (earliest fs) (tree_of_form names text (name_of n))) (sym (no_lone_flaw tree e))
      (subst (λ (t : Tree). Judges part None t) (sym (lone_tree tree e)) h)

  -- what is kept where the name stands for nothing
  pub unknown_judged : (part : Part) → tree_of_name names text n ≡ None → Judges part (Some (unknown_name n.at)) (constant false) → JudgesForm names text part (name_of n)
  unfolding flaws lone_flaw tree_of_form earlier
  unknown_judged part e h =
      subst (λ (o : Option Tree). Judges part (earliest (elim (is_some o) as (λ v. List Flaw) [ true ↦ [] | false ↦ unknown_name n.at ∷ [] ])) (unwrap_or o (constant false))) (sym e) h
