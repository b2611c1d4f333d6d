use Rattle.std.proofs.Common.{◌≡◌, Option, Some, None, refl, sym, ap, ◌∙◌}
use Rattle.std.specs.Prelude.{map, slice_get, option_map}
use Rattle.std.specs.Borrow.{Bor}
use Rattle.std.specs.Option.{option_and_then}
use Rattle.toml.specs.View.{table_view}
use Rattle.ecam_spec.specs.Book.{NamedTerm}
use Rattle.term_tree.specs.View.{tree_of, named_terms}
use Rattle.term_tree.specs.declared.cond.Cond.{Cond}
use Rattle.book_spec.specs.Document.{term_names}
use Rattle.book_tables.proofs.KnownTerms.{tree_found, known_found}
use Rattle.book_tables.proofs.names.ScopeDictionary.term.Goals as goal

of_reference : (r : Option (Bor Cond)) → option_map (λ c. tree_of c.now) r ≡ option_map tree_of (option_map (λ c. c.now) r)
of_reference None = refl
of_reference (Some c) = refl

pub returns : goal.returns
returns c =
    let scope = c.args.self.now in
    let top = table_view scope.places.now.top.now in
    let trees = map (λ (t : NamedTerm). t.tree) (named_terms scope.terms.now) in
    of_reference c.cond_at.result
    ∙ ap (option_map tree_of) c.cond_at.ensures
    ∙ tree_found scope.terms.now c.short_place.result
    ∙ ap (option_and_then (slice_get trees)) (c.short_place.ensures (term_names top) scope.places.now.finds_terms)
    ∙ sym (known_found top scope.terms.now scope.first c.args.name.now)
