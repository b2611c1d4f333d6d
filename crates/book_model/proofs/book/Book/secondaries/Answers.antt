use Rattle.std.proofs.Common.{◌≡◌, ◌<◌, length, map, slice_get, Some, refl, ap, ◌∙◌, sym, arith}
use Rattle.std.specs.Prelude.{option_map}
use Rattle.std.proofs.lemmas.Option.{slice_get-map, slice_get_read}
use Rattle.std.proofs.lemmas.List.{length-map}
use Rattle.book_model.specs.Sealed.{the_book}
use Rattle.book_model.proofs.BookLists.{many-alerts}
use Rattle.book_model.proofs.SecondaryPlaces.{secondaries-below}
use Rattle.book_model.proofs.book.Book.secondaries.Goals as goal
use Rattle.book_model.proofs.book.Book.secondaries.Goals.{After-as_slice}

pub index-requires : goal.index-requires
index-requires c =
    let same : c.self.inside.draft ≡ c.args.self.now = c.self.view_is in
    let here : c.args.alert < length c.self.inside.draft.alerts.items = rw same c.requires in
    omega (arith, ap length c.self.invariant.secondaries, length-map (the_book c.self.inside.draft).alerts (λ a. a.secondary), length-map c.self.inside.secondaries.items (λ s. s.items), many-alerts c.self.inside.draft)

-- the secondaries of the alert by the draft that the book keeps
told : (c : After-as_slice) → slice_get (map (λ a. a.secondary) (the_book c.self.inside.draft).alerts) c.args.alert ≡ Some c.as_slice.result.now
told c =
    let same : c.self.inside.draft ≡ c.args.self.now = c.self.view_is in
    let here : c.args.alert < length c.self.inside.draft.alerts.items = rw same c.requires in
    let lists = c.self.inside.secondaries.items in
    let within : c.args.alert < length lists =
    omega (arith, ap length c.self.invariant.secondaries, length-map (the_book c.self.inside.draft).alerts (λ a. a.secondary), length-map lists (λ s. s.items), many-alerts c.self.inside.draft) in
    ap (λ xs. slice_get xs c.args.alert) (sym c.self.invariant.secondaries)
    ∙ slice_get-map (λ s. s.items) lists c.args.alert
    ∙ ap (option_map (λ s. s.items)) (slice_get_read lists (length lists) c.args.alert c.index.result.now refl within c.index.ensures)
    ∙ ap Some (sym c.as_slice.ensures.value)

pub returns-clause-value : goal.returns-clause-value
returns-clause-value c = let same : c.self.inside.draft ≡ c.args.self.now = c.self.view_is in rw (← same) (told c)

pub returns-clause-within : goal.returns-clause-within
returns-clause-within c =
    let same : c.self.inside.draft ≡ c.args.self.now = c.self.view_is in
    rw (← same) (secondaries-below c.self.inside.draft c.args.alert c.as_slice.result.now (told c))
