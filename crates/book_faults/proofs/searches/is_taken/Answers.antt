use Rattle.std.proofs.Common.{◌≡◌, Bool, true, false, not, Option, Some, None, is_some, is_none, refl, ◌∙◌, sym, ap}
use Rattle.std.specs.Prelude.{ℕ, ◌||◌}
use Rattle.ecam_spec.specs.Bytes.{place_of}
use Rattle.ecam_spec.specs.KeepsLimits.{is_repeated}
use Rattle.book_spec.specs.Rules.{is_among}
use Rattle.book_tables.specs.Catalogue.{names_in}
use Rattle.book_tables.proofs.NamePlaces.{no_place}
use Rattle.book_faults.proofs.searches.is_taken.Goals as goal

some_there : (o : Option ℕ) (b : Bool) → is_none o ≡ not b → is_some o ≡ b
some_there None true h = absurd (cc)
some_there None false h = refl
some_there (Some x) true h = refl
some_there (Some x) false h = absurd (cc)

pub returns-else-is_repeated : goal.returns-else-is_repeated
returns-else-is_repeated c names counted =
    let name = c.args.name.now in
    let params = (names_in c.args.known.now).of_terms.parameters in
    let apart : is_repeated names name ≡ false = sym (c.is_repeated.ensures names counted) ∙ c.if-is_repeated.false in
    c.is_some.ensures ∙ ap is_some c.parameter.ensures ∙ some_there (place_of params name) (is_among params name) (no_place params name)
    ∙ sym (ap (λ b. b || is_among params name) apart)
