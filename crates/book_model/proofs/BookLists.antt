-- The lists of a sealed draft's book are those of the draft.
use Rattle.std.proofs.Common.{◌≡◌, List, [], ◌∷◌, map, length, refl, ap, ◌∙◌}
use Rattle.std.proofs.lemmas.List.{length-map}
use Rattle.ecam_spec.specs.Book.{Text}
use Rattle.ecam_spec.specs.Draft.{book_of, resolved, alert_names}
use Rattle.book_model.specs.View.{bytes_of, page_of, parameter_of, phase_of, alert_of, memo_of, draft_of}
use Rattle.book_model.specs.Sealed.{the_book, alert_in}
use Rattle.book_model.specs.declared.draft.Alert.{Alert}
use Rattle.book_model.specs.declared.draft.Draft.{Draft}

resolved-once : (names : List Text) (xs : List Alert) → map (resolved names) (map alert_of xs) ≡ map (λ x. resolved names (alert_of x)) xs
resolved-once names [] = refl
resolved-once names (x ∷ xs) = ap (λ ys. resolved names (alert_of x) ∷ ys) (resolved-once names xs)

module _ (d : Draft) where
  pub book-systems : (the_book d).systems ≡ map bytes_of d.systems.items
  unfolding book_of draft_of
  book-systems = refl

  pub book-pages : (the_book d).pages ≡ map page_of d.pages.items
  unfolding book_of draft_of
  book-pages = refl

  pub book-parameters : (the_book d).parameters ≡ map parameter_of d.params.items
  unfolding book_of draft_of
  book-parameters = refl

  pub book-phase : (the_book d).phase ≡ phase_of d.phase
  unfolding book_of draft_of
  book-phase = refl

  pub book-alerts : (the_book d).alerts ≡ map (alert_in d) d.alerts.items
  unfolding book_of draft_of
  book-alerts = resolved-once (alert_names (map alert_of d.alerts.items)) d.alerts.items

  pub book-memos : (the_book d).memos ≡ map memo_of d.memos.items
  unfolding book_of draft_of
  book-memos = refl

  -- as many of each as the draft has
  pub many-systems : length (the_book d).systems ≡ length d.systems.items
  many-systems = ap length book-systems ∙ length-map d.systems.items bytes_of

  pub many-pages : length (the_book d).pages ≡ length d.pages.items
  many-pages = ap length book-pages ∙ length-map d.pages.items page_of

  pub many-parameters : length (the_book d).parameters ≡ length d.params.items
  many-parameters = ap length book-parameters ∙ length-map d.params.items parameter_of

  pub many-alerts : length (the_book d).alerts ≡ length d.alerts.items
  many-alerts = ap length book-alerts ∙ length-map d.alerts.items (alert_in d)

  pub many-memos : length (the_book d).memos ≡ length d.memos.items
  many-memos = ap length book-memos ∙ length-map d.memos.items memo_of
