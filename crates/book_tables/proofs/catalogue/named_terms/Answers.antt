use Rattle.std.proofs.Common.{◌<◌, take, length, is_some, ap, subst, sym, ◌∙◌, arith, rules}
use Rattle.std.proofs.lemmas.List.{take-map, get_or-map, length-map}
use Rattle.toml.specs.View.{view, table_view}
use Rattle.term_tree.specs.View.{named_terms}
use Rattle.book_spec.specs.Document.{names_with, named_among}
use Rattle.book_spec.specs.Defaults.{named_in}
use Rattle.book_tables.specs.Reading.{views}
use Rattle.book_tables.specs.Meant.{meant_in}
use Rattle.book_tables.proofs.KnownTerms.{first_names, next_named}
use Rattle.book_tables.proofs.MeantTerms.{FirstMeant, none_meant, more_meant, all_meant}
use Rattle.book_tables.proofs.catalogue.named_terms.Goals as goal

pub loop-item-init : goal.loop-item-init
unfolding named_among
loop-item-init c = record {
  known = search (rules);
  meant = λ so. none_meant (table_view c.args.places.now.top.now) (views c.list_in-items.result.now);
}

pub invariant_of-known : goal.invariant_of-known
invariant_of-known c =
    let top = table_view c.args.places.now.top.now in
    let i = c.loop-item.item-index in
    let items = c.list_in-items.result.now in
    let known = ap named_terms c.as_slice.ensures.value ∙ c.loop-item.invariant.known ∙ ap (named_among top) (sym (take-map view i items) ∙ ap (take i) c.list_in-items.ensures) in
    record { first = first_names top c.as_slice.result.now i known }

pub loop-item-preserved : goal.loop-item-preserved
loop-item-preserved c =
    let top = table_view c.args.places.now.top.now in
    let i = c.loop-item.item-index in
    let items = c.list_in-items.result.now in
    let within : i < length items = omega arith in
    let item = c.item-item.result in
    let terms = c.loop-item.terms.items in
    let next = c.in_ok-term.ensures.value
    ∙ ap (λ ts. named_in (names_with top (named_terms ts)) (view item)) c.as_slice.ensures.value
    ∙ ap (λ v. named_in (names_with top (named_terms terms)) (view v)) c.item-item.is in
    record {
      known = ap named_terms c.in_ok-push.ensures.items ∙ next_named top terms c.in_ok-term.term items i item within c.loop-item.invariant.known next;
      meant =
          let same = ap named_terms c.as_slice.ensures.value ∙ c.loop-item.invariant.known ∙ ap (named_among top) (sym (take-map view i items)) in
          more_meant top (views items) c.loop-item.are_meant c.in_ok-term.is_meant i (view item) c.loop-item.invariant.meant
          (λ d. get_or-map view items i item d within ∙ ap view (sym c.item-item.is))
          (c.in_ok-term.ensures.meant ∙ ap (λ ts. is_some (meant_in (names_with top ts) (view item))) same);
    }

pub returns-clause-meant : goal.returns-clause-meant
returns-clause-meant c = λ so.
    let top = table_view c.args.places.now.top.now in
    let items = c.list_in-items.result.now in
    let first = c.loop-item.invariant.meant so in
    all_meant top (subst (λ vs. FirstMeant top vs (length vs)) c.list_in-items.ensures (λ k within d. first k (omega (arith, length-map items view)) d))
