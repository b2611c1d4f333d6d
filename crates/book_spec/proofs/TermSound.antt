-- The condition that a text means keeps its limits, and so does the one that a key of a table holds.
use Rattle.std.proofs.Common.{◌≡◌, ℕ, ◌≤◌, Bool, true, false, List, length, Option, Some, None, refl, sym, subst, arith}
use Rattle.std.specs.Prelude.{nat_lt, option_map}
use Rattle.std.specs.List.{All}
use Rattle.std.proofs.lemmas.Bool.{ltb-false}
use Rattle.std.proofs.lemmas.List.Elements.{recursion_from_All}
use Rattle.toml.specs.Data.{Data, Members, get_member}
use Rattle.ecam_spec.specs.Book.{Text, Tree, NamedTerm, constant}
use Rattle.ecam_spec.specs.Grammar.{spelling}
use Rattle.ecam_spec.specs.KeepsLimits.{IsInRange, IsSoundTerm}
use Rattle.ecam_spec.specs.TermNames.{IsWithin}
use Rattle.book_spec.specs.Verdict.{verdict}
use Rattle.ecam_spec.specs.TermSize.{nodes, depth}
use Rattle.ecam_spec.specs.TermText.{TermNames, Flaw, unknown_name, out_of_range, earliest, flaws, tree_of_form, judged, judged_tree, Outcome, syntax_error, unknown, number_error, too_deep, too_large, means}
use Rattle.ecam_spec.specs.TermVerdict.{IsVerdict}
use Rattle.book_spec.proofs.Verdicts.{verdict_told}
use Rattle.book_spec.specs.Rules.{Names, outcome_in}
use Rattle.book_spec.specs.Defaults.{tree_or, term_or}
use Rattle.book_spec.specs.Fields.{◌>>=◌, term_text_in}
use Rattle.book_spec.proofs.TermKeys.{NamesKey, text_names}
use Rattle.book_spec.proofs.TermRanges.{no_flaws, form_in_range}
use Rattle.book_spec.proofs.TermPlaces.{form_within}

pub constant_sound : (params alerts : ℕ) (b : Bool) → IsSoundTerm params alerts (constant b)
unfolding IsWithin IsInRange nodes depth
constant_sound params alerts b = record { within = tt; in_range = tt; small = omega arith; flat = omega arith }

-- a tree that a text may mean: there is no flaw, and it is neither too deep nor too large
record Meant (flaw : Option Flaw) (whole tree : Tree) : Type 0 where
  pub faultless : flaw ≡ None
  pub same : whole ≡ tree
  pub flat : depth whole ≤ 16
  pub small : nodes whole ≤ 64

-- the named conditions that are known keep their limits
abbrev pub Known : ℕ → ℕ → List NamedTerm → Type 0
Known params alerts terms = All (λ t. IsSoundTerm params alerts t.tree) terms

module _ (names : TermNames) (text : Text) where
  sized : (whole tree : Tree) (deep large : Bool) → nat_lt 16 (depth whole) ≡ deep → nat_lt 64 (nodes whole) ≡ large
      → elim deep as (λ b. Outcome) [ true ↦ too_deep | false ↦ elim large as (λ b. Outcome) [ true ↦ too_large | false ↦ means whole ] ] ≡ means tree
      → Meant None whole tree
  sized whole tree true large d n h = absurd (cc)
  sized whole tree false true d n h = absurd (cc)
  sized whole tree false false d n h = record {
    faultless = refl;
    same = cc;
    flat = ltb-false 16 (depth whole) d;
    small = ltb-false 64 (nodes whole) n;
  }

  meant : (flaw : Option Flaw) (whole tree : Tree) → judged_tree names text flaw whole ≡ means tree → Meant flaw whole tree
  meant (Some (unknown_name at)) whole tree h = absurd (cc)
  meant (Some (out_of_range at)) whole tree h = absurd (cc)
  meant None whole tree h = sized whole tree (nat_lt 16 (depth whole)) (nat_lt 64 (nodes whole)) refl refl h

  -- the condition that a text means keeps its limits
  pub verdict_sound : Known (length names.parameters) (length names.alerts) names.terms → (tree : Tree) → verdict names text ≡ means tree → IsSoundTerm (length names.parameters) (length names.alerts) tree
  unfolding IsVerdict judged
  verdict_sound known tree e =
      let told = subst (λ (o : Outcome). IsVerdict names text o) e (verdict_told names text) in
      let f = told.0 in
      let m = meant (earliest (flaws names text f)) (tree_of_form names text f) tree told.2 in
      let none = no_flaws (flaws names text f) m.faultless in
      let keys = recursion_from_All NamesKey (spelling f) (subst (λ ts. All NamesKey ts) (sym told.1) (text_names text)) in
      let sound : IsSoundTerm (length names.parameters) (length names.alerts) (tree_of_form names text f) = record {
        within = form_within names text (λ i t within. (known i t within).within) f none keys;
        in_range = form_in_range names text (λ i t within. (known i t within).in_range) f none;
        small = m.small;
        flat = m.flat;
      } in
      subst (λ t. IsSoundTerm (length names.parameters) (length names.alerts) t) m.same sound

-- an outcome that a value has is the verdict on some text
mapped : {X Y : Type 0} (f : X → Y) (o : Option X) (y : Y) → option_map f o ≡ Some y → (x : X) × (f x ≡ y)
mapped f None y h = absurd (cc)
mapped f (Some x) y h = (x, (let same : f x ≡ y = cc in same))

module _ (names : Names) where
  abbrev Sound : Tree → Type 0
  Sound tree = IsSoundTerm (length names.of_terms.parameters) (length names.of_terms.alerts) tree

  answered : (value : Option Data) (outcome : Outcome) → (value >>= outcome_in names) ≡ Some outcome → (text : Text) × (verdict names.of_terms text ≡ outcome)
  unfolding outcome_in
  answered None outcome h = absurd (cc)
  answered (Some value) outcome h = mapped (verdict names.of_terms) (term_text_in value) outcome h

  abbrev pub AllKnown : Type 0
  AllKnown = Known (length names.of_terms.parameters) (length names.of_terms.alerts) names.of_terms.terms

  outcome_sound : AllKnown → (b : Bool) (o : Option Outcome) → ((outcome : Outcome) → o ≡ Some outcome → (text : Text) × (verdict names.of_terms text ≡ outcome)) → Sound (tree_or (constant b) o)
  outcome_sound known b None asked = constant_sound _ _ b
  outcome_sound known b (Some (means tree)) asked = let a = asked (means tree) refl in verdict_sound names.of_terms a.0 known tree a.1
  outcome_sound known b (Some (syntax_error at)) asked = constant_sound _ _ b
  outcome_sound known b (Some (unknown at)) asked = constant_sound _ _ b
  outcome_sound known b (Some (number_error at)) asked = constant_sound _ _ b
  outcome_sound known b (Some too_deep) asked = constant_sound _ _ b
  outcome_sound known b (Some too_large) asked = constant_sound _ _ b

  -- the condition that a key of a table holds keeps its limits
  pub term_sound : AllKnown → (b : Bool) (key : Text) (table : Members) → Sound (term_or b names key table)
  unfolding term_or
  term_sound known b key table = outcome_sound known b (get_member key table >>= outcome_in names) (answered (get_member key table))
