-- How large a sealed book is, and what is so of each item that is read in it.
use Rattle.std.proofs.Common.{◌≡◌, ℕ, ◌<◌, List, map, length, get_or, All, subst, arith}
use Rattle.std.proofs.lemmas.List.{length-map}
use Rattle.ecam_spec.specs.KeepsLimits.{IsSoundAlert, IsSoundParameter, IsSoundRow, IsSoundPage, IsSoundLine, IsSoundStatus, IsSoundMemo}
use Rattle.book_model.specs.View.{bytes_of, page_of, row_of, parameter_of, line_of, status_of, alert_of, memo_of, draft_of}
use Rattle.book_model.specs.Sealed.{IsSealed}
use Rattle.book_model.specs.Sizes.{Sizes, AlertSizes}
use Rattle.book_model.specs.declared.draft.Page.{Page}
use Rattle.book_model.specs.declared.draft.Param.{Param}
use Rattle.book_model.specs.declared.draft.Alert.{Alert}
use Rattle.book_model.specs.declared.draft.Line.{Line}
use Rattle.book_model.specs.declared.draft.StatusLine.{StatusLine}
use Rattle.book_model.specs.declared.draft.Memo.{Memo}
use Rattle.book_model.specs.declared.draft.Draft.{Draft}
use Rattle.book_model.proofs.BookReads.{view-read}

-- what is so of each item of a list's view is so of one that is read
all-read : {X Y : Type 0} (P : Y → Type 0) (f : X → Y) (items : List X) → All P (map f items) → (xs : List X) (i : ℕ) (x : X) → xs ≡ items → i < length xs → x ≡ get_or xs i x → P (f x)
all-read P f items all xs i x same within here =
    let each : All P (map f xs) = rw same all in
    subst P (view-read f xs i x within here (f x)) (each i (f x) (omega (arith, length-map xs f)))

module _ (d : Draft) (sealed : IsSealed d) where
  pub sizes : Sizes d
  unfolding draft_of
  sizes = record {
    systems = omega (arith, sealed.sound.system_count, length-map d.systems.items bytes_of);
    pages = omega (arith, sealed.sound.page_count, length-map d.pages.items page_of);
    params = omega (arith, sealed.sound.parameter_count, length-map d.params.items parameter_of);
    alerts = omega (arith, sealed.sound.alert_count, length-map d.alerts.items alert_of);
    memos = omega (arith, sealed.sound.memo_count, length-map d.memos.items memo_of);
  }

  module _ (xs : List Page) (i : ℕ) (x : Page) (same : xs ≡ d.pages.items) (within : i < length xs) (here : x ≡ get_or xs i x) where
    pub page-sound : IsSoundPage (length d.params.items) (page_of x)
    unfolding draft_of
    page-sound =
        subst (λ n. IsSoundPage n (page_of x)) (length-map d.params.items parameter_of)
        (all-read (IsSoundPage (length (map parameter_of d.params.items))) page_of d.pages.items sealed.sound.pages xs i x same within here)

    pub rows-sound : All (IsSoundRow (length d.params.items)) (map row_of x.rows.items)
    rows-sound = page-sound.rows

  module _ (xs : List Param) (i : ℕ) (x : Param) (same : xs ≡ d.params.items) (within : i < length xs) (here : x ≡ get_or xs i x) where
    pub parameter-sound : IsSoundParameter (parameter_of x)
    unfolding draft_of
    parameter-sound = all-read IsSoundParameter parameter_of d.params.items sealed.sound.parameters xs i x same within here

  module _ (xs : List Alert) (i : ℕ) (x : Alert) (same : xs ≡ d.alerts.items) (within : i < length xs) (here : x ≡ get_or xs i x) where
    pub alert-sound : IsSoundAlert (length d.params.items) (length d.alerts.items) (length d.systems.items) (length d.pages.items) (alert_of x)
    unfolding draft_of
    alert-sound =
        let read = all-read (IsSoundAlert (length (map parameter_of d.params.items)) (length (map alert_of d.alerts.items)) (length (map bytes_of d.systems.items)) (length (map page_of d.pages.items))) alert_of d.alerts.items sealed.sound.alerts xs i x same within here in
        rw (← length-map d.params.items parameter_of, ← length-map d.alerts.items alert_of, ← length-map d.systems.items bytes_of, ← length-map d.pages.items page_of) read

    pub alert-sizes : AlertSizes d x
    alert-sizes = record {
      system = alert-sound.system;
      page = alert-sound.page;
      confirm = alert-sound.confirm;
      inhibit = alert-sound.inhibit;
      secondary = omega (arith, alert-sound.secondary, length-map x.secondary.items bytes_of);
      lines = omega (arith, alert-sound.line_count, length-map x.lines.items line_of);
      status = omega (arith, alert-sound.status_count, length-map x.status.items status_of);
    }

    module _ (ls : List Line) (j : ℕ) (l : Line) (own : ls ≡ x.lines.items) (inside : j < length ls) (at : l ≡ get_or ls j l) where
      pub line-sound : IsSoundLine (length d.params.items) (length d.alerts.items) (line_of l)
      line-sound = all-read (IsSoundLine (length d.params.items) (length d.alerts.items)) line_of x.lines.items alert-sound.lines ls j l own inside at

    module _ (ls : List StatusLine) (j : ℕ) (l : StatusLine) (own : ls ≡ x.status.items) (inside : j < length ls) (at : l ≡ get_or ls j l) where
      pub status-sound : IsSoundStatus (status_of l)
      status-sound = all-read IsSoundStatus status_of x.status.items alert-sound.status ls j l own inside at

  module _ (xs : List Memo) (i : ℕ) (x : Memo) (same : xs ≡ d.memos.items) (within : i < length xs) (here : x ≡ get_or xs i x) where
    pub memo-sound : IsSoundMemo (length d.params.items) (length d.alerts.items) (memo_of x)
    unfolding draft_of
    memo-sound =
        let read = all-read (IsSoundMemo (length (map parameter_of d.params.items)) (length (map alert_of d.alerts.items))) memo_of d.memos.items sealed.sound.memos xs i x same within here in
        rw (← length-map d.params.items parameter_of, ← length-map d.alerts.items alert_of) read
