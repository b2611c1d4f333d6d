-- What is read at a place of a book's lists is what its book of plain data has there. Each lemma takes the list
-- that is read, `xs`, the place, what was read, and that the list is the book's.
use Rattle.std.proofs.Common.{◌≡◌, ℕ, ◌<◌, List, [], map, length, get_or, slice_get, Some, sym, ap, ◌∙◌, arith}
use Rattle.std.proofs.lemmas.List.{length-map, get_or-map}
use Rattle.std.proofs.lemmas.Option.{slice_get-get_or}
use Rattle.ecam_spec.specs.Situation.{alert_at, no_alert, parameter_at, no_parameter}
use Rattle.book_model.specs.View.{bytes_of, page_of, parameter_of, memo_of}
use Rattle.book_model.specs.Sealed.{the_book, alert_in}
use Rattle.book_model.specs.declared.draft.Page.{Page}
use Rattle.book_model.specs.declared.draft.Param.{Param}
use Rattle.book_model.specs.declared.draft.Alert.{Alert}
use Rattle.book_model.specs.declared.draft.Memo.{Memo}
use Rattle.book_model.specs.declared.draft.Draft.{Draft}
use Rattle.arrayvec.specs.ArrayString.{ArrayString}
use Rattle.book_model.proofs.BookLists.{book-systems, book-pages, book-parameters, book-alerts, book-memos}

-- what is read at a place of a list stands there in any view of the list
module _ {X Y : Type 0} (f : X → Y) (xs : List X) (i : ℕ) (x : X) (within : i < length xs) (here : x ≡ get_or xs i x) where
  pub view-read : (d : Y) → get_or (map f xs) i d ≡ f x
  view-read d = get_or-map f xs i x d within ∙ ap f (sym here)

  pub view-get : slice_get (map f xs) i ≡ Some (f x)
  view-get = slice_get-get_or (map f xs) i (f x) (omega (arith, length-map xs f)) ∙ ap Some (view-read (f x))

-- the same of a list that is the view of another
module _ {X Y : Type 0} (f : X → Y) (items : List X) (ys : List Y) (view : ys ≡ map f items)
    (xs : List X) (i : ℕ) (x : X) (same : xs ≡ items) (within : i < length xs) (here : x ≡ get_or xs i x) where
  read-in : (d : Y) → get_or ys i d ≡ f x
  read-in d = ap (λ zs. get_or zs i d) (view ∙ ap (map f) (sym same)) ∙ view-read f xs i x within here d

  get-in : slice_get ys i ≡ Some (f x)
  get-in = ap (λ zs. slice_get zs i) (view ∙ ap (map f) (sym same)) ∙ view-get f xs i x within here

module _ (d : Draft) where
  -- of an alert each field follows, as `ap (λ a. a.confirm)` of it
  module _ (xs : List Alert) (i : ℕ) (x : Alert) (same : xs ≡ d.alerts.items) (within : i < length xs) (here : x ≡ get_or xs i x) where
    pub alert-read : alert_at (the_book d) i ≡ alert_in d x
    alert-read = read-in (alert_in d) d.alerts.items _ (book-alerts d) xs i x same within here no_alert

    pub alert-get : slice_get (the_book d).alerts i ≡ Some (alert_in d x)
    alert-get = get-in (alert_in d) d.alerts.items _ (book-alerts d) xs i x same within here

  module _ (xs : List Page) (i : ℕ) (x : Page) (same : xs ≡ d.pages.items) (within : i < length xs) (here : x ≡ get_or xs i x) where
    pub page-get : slice_get (the_book d).pages i ≡ Some (page_of x)
    page-get = get-in page_of d.pages.items _ (book-pages d) xs i x same within here

  -- of a parameter its kind follows, as `ap (λ p. p.kind)` of it
  module _ (xs : List Param) (i : ℕ) (x : Param) (same : xs ≡ d.params.items) (within : i < length xs) (here : x ≡ get_or xs i x) where
    pub parameter-read : parameter_at (the_book d) i ≡ parameter_of x
    parameter-read = read-in parameter_of d.params.items _ (book-parameters d) xs i x same within here no_parameter

  module _ (xs : List Memo) (i : ℕ) (x : Memo) (same : xs ≡ d.memos.items) (within : i < length xs) (here : x ≡ get_or xs i x) where
    pub memo-get : slice_get (the_book d).memos i ≡ Some (memo_of x)
    memo-get = get-in memo_of d.memos.items _ (book-memos d) xs i x same within here

  module _ (xs : List ArrayString) (i : ℕ) (x : ArrayString) (same : xs ≡ d.systems.items) (within : i < length xs) (here : x ≡ get_or xs i x) where
    pub system-read : get_or (the_book d).systems i [] ≡ x.bytes
    system-read = read-in bytes_of d.systems.items _ (book-systems d) xs i x same within here []
