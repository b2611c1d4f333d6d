-- What is so of a document whose table shows no fault: no advisory breaks a rule.
use Rattle.std.proofs.Common.{◌≡◌, ℕ, suc, Bool, true, false, List, [], ◌∷◌, map, Option, Some, None, refl}
use Rattle.std.specs.Prelude.{codes}
use Rattle.std.specs.Option.{option_or}
use Rattle.std.specs.List.{All, AllByRecursion}
use Rattle.std.proofs.lemmas.List.Elements.{All-cons, All-nil}
use Rattle.toml.specs.Data.{Data, Members}
use Rattle.ecam_spec.specs.Book.{Book}
use Rattle.ecam_spec.specs.Faults.{first_from, whole}
use Rattle.ecam_spec.specs.Places.{first_of}
use Rattle.book_spec.specs.Document.{names_in}
use Rattle.limits_spec.specs.Rules.{item_breaks}
use Rattle.limits_spec.specs.Document.{coded_rules, fault_at, advisories_in, top_breaks, place_of_break, table_fault}
use Rattle.limits_spec.specs.declared.form.LimitsFault.{LimitsFault}
use Rattle.limits_spec.specs.declared.form.Rule.{Rule}
use Rattle.limits_spec.specs.declared.form.Rule.TheVariants as rules

none_told : (fs : List (Option LimitsFault)) → first_of fs ≡ None → AllByRecursion (λ told. told ≡ None) fs
none_told [] h = tt
none_told (None ∷ fs) h = (refl, none_told fs h)
none_told (Some f ∷ fs) h = absurd (cc)

none_at : (code : ℕ) (item : Option ℕ) → fault_at code item ≡ None → item ≡ None
none_at code None h = refl
none_at code (Some i) h = absurd (cc)

none_first : {X : Type 0} (n : ℕ) (test : X → Bool) (xs : List X) → first_from n (λ i x. test x) xs ≡ None → All (λ x. test x ≡ false) xs
none_first n test [] h = All-nil (λ x. test x ≡ false)
none_first n test (x ∷ xs) h =
    elim (test x) as (λ b. test x ≡ b → elim b as (λ c. Option ℕ) [ true ↦ Some (suc n) | false ↦ first_from (suc n) (λ i y. test y) xs ] ≡ None → All (λ y. test y ≡ false) (x ∷ xs)) [
      | true ↦ λ e k. absurd (cc)
      | false ↦ λ e k. All-cons (λ y. test y ≡ false) x xs e (none_first (suc n) test xs k)
    ] refl h

none_first_of : {A : Type 0} (o p : Option A) → option_or o p ≡ None → (o ≡ None) × (p ≡ None)
none_first_of None p h = (refl, h)
none_first_of (Some x) p h = absurd (cc)

module _ (b : Book) (top : Members) where
  places_none : table_fault b top ≡ None → AllByRecursion (λ told. told ≡ None) (map (λ r. fault_at r.0 (place_of_break b top r.1)) coded_rules)
  unfolding table_fault
  places_none h = none_told (map (λ r. fault_at r.0 (place_of_break b top r.1)) coded_rules) (none_first_of _ _ h).1

  -- no advisory breaks this rule
  abbrev pub Keeps : Rule → Data → Type 0
  Keeps rule value = item_breaks b (names_in (codes "advisory") top) rule value ≡ false

  kept : (code : ℕ) (rule : Rule) → fault_at code (place_of_break b top rule) ≡ None → All (Keeps rule) (advisories_in top)
  unfolding place_of_break
  kept code rule h =
      none_first 0 (item_breaks b (names_in (codes "advisory") top) rule) (advisories_in top)
      (none_first_of (whole (top_breaks rule top)) _ (none_at code _ h)).1

  -- the rules of keys, of types, of parameters and of pages
  pub all_needed : table_fault b top ≡ None → All (Keeps rules.Needed) (advisories_in top)
  unfolding coded_rules
  all_needed h = kept 5 rules.Needed (places_none h).1.0

  pub all_typed : table_fault b top ≡ None → All (Keeps rules.Typed) (advisories_in top)
  unfolding coded_rules
  all_typed h = kept 6 rules.Typed (places_none h).1.1.0

  pub all_measured : table_fault b top ≡ None → All (Keeps rules.Measured) (advisories_in top)
  unfolding coded_rules
  all_measured h = kept 11 rules.Measured (places_none h).1.1.1.1.1.1.1.0

  pub all_paged : table_fault b top ≡ None → All (Keeps rules.Paged) (advisories_in top)
  unfolding coded_rules
  all_paged h = kept 12 rules.Paged (places_none h).1.1.1.1.1.1.1.1.0
