use Rattle.std.proofs.Common.{◌≡◌, ℕ, ◌<◌, length, Option, Some, None, ap, ◌∙◌, sym, arith}
use Rattle.std.specs.List.{position_from}
use Rattle.std.specs.Prelude.{map, IfSome}
use Rattle.ecam_spec.specs.Book.{Text, Book}
use Rattle.book_model.specs.Sealed.{the_book}
use Rattle.book_model.specs.View.{parameter_of}
use Rattle.book_model.proofs.BookLists.{book-parameters}
use Rattle.book_model.proofs.BookLimits.{sizes}
use Rattle.view_spec.specs.Places.{is_number, number_place}
use Rattle.view_spec.proofs.NamedPlaces.{number_within}
use Rattle.book_places.proofs.places.number_place.Goals as goal

within : (b : Book) (name : Text) (o : Option ℕ) → o ≡ number_place b name → IfSome o (λ p. p < length b.parameters)
within b name None is = tt
within b name (Some p) is = number_within b name p (sym is)

pub first_number-requires : goal.first_number-requires
first_number-requires c = omega (arith, (sizes c.args.book.now c.params.ensures.sealed).params, ap length c.params.ensures.value)

pub returns-clause-place : goal.returns-clause-place
unfolding number_place
returns-clause-place c =
    let test = is_number c.args.name.now in
    c.first_number.ensures ∙ ap (λ ps. position_from test 0 (map parameter_of ps)) c.params.ensures.value ∙ ap (position_from test 0) (sym (book-parameters c.args.book.now))

pub returns-clause-within : goal.returns-clause-within
returns-clause-within c = within (the_book c.args.book.now) c.args.name.now c.first_number.result (returns-clause-place c)
