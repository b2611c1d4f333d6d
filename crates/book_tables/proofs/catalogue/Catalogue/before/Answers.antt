use Rattle.std.proofs.Common.{take, sym, ap, ◌∙◌}
use Rattle.std.specs.Prelude.{codes}
use Rattle.std.proofs.lemmas.List.{take-map}
use Rattle.toml.specs.View.{table_view}
use Rattle.term_tree.specs.View.{named_term, named_terms}
use Rattle.book_spec.specs.Rules.{list_in}
use Rattle.book_spec.specs.Document.{names_with}
use Rattle.book_spec.proofs.NamedTerms.{named_first}
use Rattle.book_tables.proofs.KnownTerms.{first_names}
use Rattle.book_tables.proofs.catalogue.Catalogue.before.Goals as goal

pub invariant_of-result : goal.invariant_of-result
invariant_of-result c =
    let catalogue = c.args.self.now in
    let top = table_view catalogue.places.top.now in
    let place = c.args.place in
    let known = ap named_terms (c.first.ensures ∙ ap (take c.args.place) c.as_slice.ensures.value) ∙ sym (take-map named_term place catalogue.terms.items) ∙ ap (take place) c.requires ∙ named_first top (list_in (codes "term") top) place in
    record { first = first_names top c.first.result.now place known }

pub returns : goal.returns
returns c =
    let catalogue = c.args.self.now in
    let top = table_view catalogue.places.top.now in
    let known = ap named_terms (c.first.ensures ∙ ap (take c.args.place) c.as_slice.ensures.value) ∙ sym (take-map named_term c.args.place catalogue.terms.items) ∙ ap (take c.args.place) c.requires in
    ap (names_with top) known
