-- A zone whose inputs stay as they were stays as it was.
use Rattle.std.proofs.Common.{◌≡◌, ℕ, suc, ◌<◌, Bool, true, false, not, ◌&&◌, ◌==◌, List, [], ◌∷◌, ◌++◌, map, length, get_or, slice_get, Option, Some, cond, refl, sym, ap, ◌∙◌, inl, inr}
use Rattle.std.specs.Prelude.{filter, flat_map, find}
use Rattle.std.specs.List.{list_any}
use Rattle.std.specs.Option.{option_and_then, option_or}
use Rattle.std.proofs.lemmas.Bool.{cases_lt}
use Rattle.std.proofs.lemmas.List.{get_or_past}
use Rattle.std.proofs.lemmas.List.Elements.{All-filter, filter_agree}
use Rattle.ecam_spec.specs.declared.kinds.Choice.TheVariants.{Auto, Page, Status}
use Rattle.ecam_spec.specs.Book as plain
use Rattle.ecam_spec.specs.Book.{Book, Line, Memo}
use Rattle.ecam_spec.specs.Term.{holds, in_set}
use Rattle.ecam_spec.specs.Value.{value}
use Rattle.ecam_spec.specs.Picture.{row}
use Rattle.ecam_spec.specs.Places.{below, first_in}
use Rattle.ecam_spec.specs.History.{Moment}
use Rattle.ecam_spec.specs.Crew.{normal}
use Rattle.ecam_spec.specs.LeftZone.{LeftRow, title_colour, alert_rows, left_rows, plain as plain_row}
use Rattle.ecam_spec.specs.RightZone.{right_rows}
use Rattle.ecam_spec.specs.StatusPage.{status_rows, status_page}
use Rattle.ecam_spec.specs.SystemDisplay.{page_rows, called_page, display_rows}
use Rattle.ecam_spec.specs.Situation.{alert_at, no_alert, parameter_at, no_parameter, value_in, phase_in, world, active_in, starred_in}
use Rattle.ecam_spec.specs.Screen as screen
use Rattle.ecam_spec.specs.Screen.{alert_numbers, order, cockpit, line_stands, shown_in, is_shown_in, cancelled_in, left_in, right_in, status_in, display}
use Rattle.ecam_spec.proofs.CrewSteps.{shown-flags}
use Rattle.ecam_spec.proofs.OrderLaws.{order-below, below-below}
use Rattle.param_table.specs.Asked.{is_asked_for}
use Rattle.fwc_lane.proofs.PagesAlike.{IsOfBook, one-of-book, called-of-book, page-alike}
use Rattle.warning_display.proofs.Passing.{filter_told, any_told}

-- two tests that agree on the members of a list keep the same of it
pub filter_same : {X : Type 0} (p q : X → Bool) (xs : List X) → ((i : ℕ) (x : X) → slice_get xs i ≡ Some x → p x ≡ q x) → filter p xs ≡ filter q xs
filter_same p q [] same = refl
filter_same p q (x ∷ xs) same =
    ap (λ c. cond c (x ∷ filter p xs) (filter p xs)) (same 0 x refl) ∙ ap (λ ys. cond (q x) (x ∷ ys) ys) (filter_same p q xs (λ i y is. same (suc i) y is))

-- two functions that agree on what passes a test make the same of those that pass it
flat_map_passing : {X Y : Type 0} (f g : X → List Y) (p : X → Bool) → ((x : X) → p x ≡ true → f x ≡ g x) → (xs : List X) → flat_map f (filter p xs) ≡ flat_map g (filter p xs)
flat_map_passing f g p same [] = refl
flat_map_passing f g p same (x ∷ xs) = by (p x) refl (flat_map_passing f g p same xs) where
  by : (on : Bool) → p x ≡ on → flat_map f (filter p xs) ≡ flat_map g (filter p xs) → flat_map f (cond on (x ∷ filter p xs) (filter p xs)) ≡ flat_map g (cond on (x ∷ filter p xs) (filter p xs))
  by true e rest = ap (λ ys. ys ++ flat_map f (filter p xs)) (same x e) ∙ ap (λ ys. g x ++ ys) rest
  by false e rest = rest

module _ (b : Book) (m : ℕ → Moment) (k j : ℕ) where
  -- ---- what is shown

  module _ (shown : (a : ℕ) → a < length b.alerts → is_shown_in b m a k ≡ is_shown_in b m a j) where
    pub shown-kept : shown_in b m k ≡ shown_in b m j
    shown-kept =
        shown-flags b m (λ a. is_shown_in b m a k) k (λ a lt. refl)
        ∙ filter_told (length b.alerts) (λ a. is_shown_in b m a k) (λ a. is_shown_in b m a j) shown (order b) (order-below b)
        ∙ sym (shown-flags b m (λ a. is_shown_in b m a j) j (λ a lt. refl))

  -- ---- the memos

  module _ (memos : (i : ℕ) (x : Memo) → slice_get b.memos i ≡ Some x → holds (world b m) x.when k ≡ holds (world b m) x.when j) where
    memos-kept : (zone : Memo → Bool) → screen.memo_rows b m zone k ≡ screen.memo_rows b m zone j
    unfolding screen.memo_rows
    memos-kept zone =
        ap (map (λ (x : Memo). row x.colour x.text))
        (filter_same (λ (x : Memo). zone x && holds (world b m) x.when k) (λ (x : Memo). zone x && holds (world b m) x.when j) b.memos (λ i x is. ap (λ h. zone x && h) (memos i x is)))

    -- ---- the right zone

    pub right-kept : ((a : ℕ) → a < length b.alerts → starred_in b m a k ≡ starred_in b m a j) → right_in b m k ≡ right_in b m j
    unfolding right_in screen.starred_systems
    right-kept starred =
        let test : ℕ → ℕ → Bool = λ i s. list_any (λ a. (alert_at b a).system == s && starred_in b m a i) (alert_numbers b) in
        let same : (s : ℕ) → test k s ≡ test j s =
        λ s. any_told (length b.alerts) (λ a. (alert_at b a).system == s && starred_in b m a k) (λ a. (alert_at b a).system == s && starred_in b m a j)
        (λ a h. ap (λ q. (alert_at b a).system == s && q) (starred a h)) (alert_numbers b) (below-below (length b.alerts)) in
        ap (λ xs. right_rows (map (λ s. get_or b.systems s []) xs) (screen.memo_rows b m (λ (x : Memo). not x.left) k)) (filter_agree (test k) (test j) same (below (length b.systems)))
        ∙ ap (right_rows (screen.starred_systems b m j)) (memos-kept (λ (x : Memo). not x.left))

    -- ---- the left zone

    -- of the lines it goes by those whose alerts moment j shows
    module _ (stands : (a : ℕ) → a < length b.alerts → is_shown_in b m a j ≡ true → (i : ℕ) (l : Line) → slice_get (alert_at b a).lines i ≡ Some l → line_stands b m k l ≡ line_stands b m j l) where
      own-lines : (a : ℕ) → is_shown_in b m a j ≡ true → filter (line_stands b m k) (alert_at b a).lines ≡ filter (line_stands b m j) (alert_at b a).lines
      own-lines a on =
          elim (cases_lt a (length b.alerts)) [
            | inl lt ↦ filter_same (line_stands b m k) (line_stands b m j) (alert_at b a).lines (stands a lt on)
            | inr past ↦
                let none : alert_at b a ≡ no_alert = get_or_past b.alerts a no_alert past in
                ap (λ (x : plain.Alert). filter (line_stands b m k) x.lines) none ∙ sym (ap (λ (x : plain.Alert). filter (line_stands b m j) x.lines) none)
          ]

      rows-kept : (a : ℕ) → is_shown_in b m a j ≡ true → alert_rows (line_stands b m k) a (alert_at b a) ≡ alert_rows (line_stands b m j) a (alert_at b a)
      unfolding alert_rows
      rows-kept a on = ap (λ ls. record { row = row (title_colour (alert_at b a).level) (alert_at b a).title; title_of = Some a } ∷ map (λ (l : Line). plain_row (row l.colour l.text)) ls) (own-lines a on)

      pub left-kept : shown_in b m k ≡ shown_in b m j → normal (cockpit b m) k ≡ normal (cockpit b m) j → left_in b m k ≡ left_in b m j
      unfolding left_in
      left-kept shown calm =
          let some : shown_in b m j ≡ filter (λ a. is_shown_in b m a j) (order b) = shown-flags b m (λ a. is_shown_in b m a j) j (λ a lt. refl) in
          let blocks : ℕ → ℕ → List LeftRow = λ i a. alert_rows (line_stands b m i) a (alert_at b a) in
          ap (λ xs. left_rows (flat_map (λ a. alert_rows (line_stands b m k) a (alert_at b a)) xs) (normal (cockpit b m) k) (screen.memo_rows b m (λ (x : Memo). x.left) k)) shown
          ∙ ap (λ rs. left_rows rs (normal (cockpit b m) k) (screen.memo_rows b m (λ (x : Memo). x.left) k))
          (ap (flat_map (blocks k)) some ∙ flat_map_passing (blocks k) (blocks j) (λ a. is_shown_in b m a j) rows-kept (order b) ∙ ap (flat_map (blocks j)) (sym some))
          ∙ ap (λ n. left_rows (flat_map (λ a. alert_rows (line_stands b m j) a (alert_at b a)) (shown_in b m j)) n (screen.memo_rows b m (λ (x : Memo). x.left) k)) calm
          ∙ ap (left_rows (flat_map (λ a. alert_rows (line_stands b m j) a (alert_at b a)) (shown_in b m j)) (normal (cockpit b m) j)) (memos-kept (λ (x : Memo). x.left))

  -- ---- the status page

  pub status-kept : ((a : ℕ) → a < length b.alerts → active_in b m a k ≡ active_in b m a j) → ((a : ℕ) → a < length b.alerts → cancelled_in b m a k ≡ cancelled_in b m a j)
      → status_in b m k ≡ status_in b m j
  unfolding status_in
  status-kept active cancelled =
      let n = length b.alerts in
      let actives : filter (λ a. active_in b m a k) (alert_numbers b) ≡ filter (λ a. active_in b m a j) (alert_numbers b) =
      filter_told n (λ a. active_in b m a k) (λ a. active_in b m a j) active (alert_numbers b) (below-below n) in
      let both : filter (λ a. cancelled_in b m a k) (filter (λ a. active_in b m a k) (alert_numbers b)) ≡ filter (λ a. cancelled_in b m a j) (filter (λ a. active_in b m a j) (alert_numbers b)) =
      filter_told n (λ a. cancelled_in b m a k) (λ a. cancelled_in b m a j) cancelled (filter (λ a. active_in b m a k) (alert_numbers b))
      (All-filter (λ a. active_in b m a k) (λ a. a < n) (alert_numbers b) (below-below n))
      ∙ ap (filter (λ a. cancelled_in b m a j)) actives in
      ap (λ xs. status_rows (map (alert_at b) xs) (map (alert_at b) (filter (λ a. cancelled_in b m a k) (filter (λ a. active_in b m a k) (alert_numbers b))))) actives
      ∙ ap (λ xs. status_rows (map (alert_at b) (filter (λ a. active_in b m a j) (alert_numbers b))) (map (alert_at b) xs)) both

  -- ---- the system display

  -- the situation calls for the same page
  pub called-kept : phase_in b m k ≡ phase_in b m j → shown_in b m k ≡ shown_in b m j → called_page (display b m k) ≡ called_page (display b m j)
  unfolding called_page display
  called-kept phase shown =
      ap (λ p. option_or (option_and_then (slice_get b.pages) (option_and_then (λ a. (alert_at b a).page) (first_in (shown_in b m k)))) (find (λ (x : plain.Page). in_set x.phases p) b.pages)) phase
      ∙ ap (λ xs. option_or (option_and_then (slice_get b.pages) (option_and_then (λ a. (alert_at b a).page) (first_in xs))) (find (λ (x : plain.Page). in_set x.phases (phase_in b m j)) b.pages)) shown

  module _ (values : (p : ℕ) → p < length b.parameters → is_asked_for b p ≡ true → value_in b m p k ≡ value_in b m p j) where
    -- a parameter that isn't there never has a value
    every-value : (p : ℕ) → is_asked_for b p ≡ true → value_in b m p k ≡ value_in b m p j
    unfolding value_in value
    every-value p on =
        elim (cases_lt p (length b.parameters)) [
          | inl lt ↦ values p lt on
          | inr past ↦
              let none : parameter_at b p ≡ no_parameter = get_or_past b.parameters p no_parameter past in
              ap (λ (x : plain.Parameter). value x (λ i. (m i).words) k) none ∙ sym (ap (λ (x : plain.Parameter). value x (λ i. (m i).words) j) none)
        ]

    page-kept : (o : Option plain.Page) → IsOfBook b o → page_rows (display b m k) o ≡ page_rows (display b m j) o
    unfolding display
    page-kept o own = page-alike b (display b m k) (display b m j) (λ p. refl) every-value o own

    pub one-page-kept : (i : ℕ) → display_rows (display b m k) (Page i) ≡ display_rows (display b m j) (Page i)
    unfolding display_rows display
    one-page-kept i = page-kept (slice_get b.pages i) (one-of-book b (Some i))

    pub called-page-kept : phase_in b m k ≡ phase_in b m j → shown_in b m k ≡ shown_in b m j → display_rows (display b m k) Auto ≡ display_rows (display b m j) Auto
    unfolding display_rows display
    called-page-kept phase shown = page-kept (called_page (display b m k)) (called-of-book b (display b m k) refl) ∙ ap (page_rows (display b m j)) (called-kept phase shown)

  pub status-page-kept : (q : ℕ) → status_in b m k ≡ status_in b m j → display_rows (display b m k) (Status q) ≡ display_rows (display b m j) (Status q)
  unfolding display_rows display
  status-page-kept q same = ap (status_page q) same
