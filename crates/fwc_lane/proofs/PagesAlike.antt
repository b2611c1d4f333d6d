-- Displays that agree on the values that the book asks for show each of its pages alike.
use Rattle.std.proofs.Common.{◌≡◌, ℕ, suc, ◌<◌, Bool, true, false, List, [], ◌∷◌, map, length, get_or, slice_get, Option, Some, None, cond, refl, sym, ap, ◌∙◌}
use Rattle.std.specs.Prelude.{find, ℤ, if◌then◌else◌}
use Rattle.std.specs.Option.{option_and_then, option_or}
use Rattle.ecam_spec.specs.declared.kinds.Colour.TheVariants.{Green, White}
use Rattle.ecam_spec.specs.declared.limits.TheConstants.{DISPLAY_ROWS}
use Rattle.ecam_spec.specs.Book.{PageRow, Page, Book}
use Rattle.ecam_spec.specs.Term.{in_set}
use Rattle.ecam_spec.specs.Picture.{row, zone}
use Rattle.ecam_spec.specs.History.{Moment}
use Rattle.ecam_spec.specs.SystemDisplay.{Display, page_rows, page_row, shown_value, value_row, value_text, called_page}
use Rattle.ecam_spec.specs.Situation.{value_in}
use Rattle.ecam_spec.specs.Screen.{display}
use Rattle.wakes.specs.Marks.{is_marked}
use Rattle.param_table.specs.Asked.{is_asked_for}
use Rattle.param_table.proofs.AskedFor.{shown_asked}
use Rattle.system_display.specs.Pages.{Displays, DifferBy}

-- ---- lists

-- two functions that agree on each member of a list make the same of it
map-each : {X Y : Type 0} (f g : X → Y) (xs : List X) → ((i : ℕ) (x : X) → slice_get xs i ≡ Some x → f x ≡ g x) → map f xs ≡ map g xs
map-each f g [] same = refl
map-each f g (x ∷ xs) same = ap (λ y. y ∷ map f xs) (same 0 x refl) ∙ ap (λ ys. g x ∷ ys) (map-each f g xs (λ i y is. same (suc i) y is))

-- what is found has a place
found-at : {X : Type 0} (p : X → Bool) (xs : List X) (x : X) → find p xs ≡ Some x → (i : ℕ) × (slice_get xs i ≡ Some x)
found-at p [] x is = absurd (let w : ⊥ = (let clash : None ≡ Some x = is in cc) in w)
found-at p (y ∷ ys) x is = by (p y) refl (λ e. found-at p ys x e) where
  by : (on : Bool) → p y ≡ on → (find p ys ≡ Some x → (i : ℕ) × (slice_get ys i ≡ Some x)) → (i : ℕ) × (slice_get (y ∷ ys) i ≡ Some x)
  by true on rest = (0, sym (ap (λ c. cond c (Some y) (find p ys)) on) ∙ is)
  by false off rest = let there = rest (sym (ap (λ c. cond c (Some y) (find p ys)) off) ∙ is) in (suc there.0, there.1)

-- ---- pages of a book

module _ (b : Book) where
  -- it is one of the book's, or none
  abbrev pub IsOfBook : Option Page → Type 0
  IsOfBook o = (page : Page) → o ≡ Some page → (i : ℕ) × (slice_get b.pages i ≡ Some page)

  pub one-of-book : (o : Option ℕ) → IsOfBook (option_and_then (slice_get b.pages) o)
  one-of-book None page is = absurd (let w : ⊥ = (let clash : None ≡ Some page = is in cc) in w)
  one-of-book (Some i) page is = (i, is)

  -- the one that the situation calls for
  pub called-of-book : (d : Display) → d.pages ≡ b.pages → IsOfBook (called_page d)
  unfolding called_page
  called-of-book d same page is =
      by (option_and_then (slice_get d.pages) d.alert_page) refl is where
        by : (first : Option Page) → option_and_then (slice_get d.pages) d.alert_page ≡ first
            → option_or first (find (λ (p : Page). in_set p.phases d.phase) d.pages) ≡ Some page → (i : ℕ) × (slice_get b.pages i ≡ Some page)
        by None own here =
            let there = found-at (λ (p : Page). in_set p.phases d.phase) d.pages page here in
            (there.0, ap (λ ps. slice_get ps there.0) (sym same) ∙ there.1)
        by (Some p) own here = one-of-book d.alert_page page (ap (λ ps. option_and_then (slice_get ps) d.alert_page) (sym same) ∙ own ∙ here)

  module _ (d e : Display) (kinds : (p : ℕ) → d.kinds p ≡ e.kinds p) (values : (p : ℕ) → is_asked_for b p ≡ true → d.values p ≡ e.values p) where
    value-alike : (r : PageRow) (p : ℕ) (v : Option ℤ) → shown_value d r p v ≡ shown_value e r p v
    unfolding shown_value
    value-alike r p None = refl
    value-alike r p (Some z) = ap (λ k. value_row r.text r.unit Green (value_text k z)) (kinds p)

    row-alike : (r : PageRow) (o : Option ℕ) → ((p : ℕ) → o ≡ Some p → is_asked_for b p ≡ true) → page_row d r o ≡ page_row e r o
    unfolding page_row
    row-alike r None asked = refl
    row-alike r (Some p) asked = value-alike r p (d.values p) ∙ ap (shown_value e r p) (values p (asked p refl))

    -- the rows of a page of the book
    pub page-alike : (o : Option Page) → IsOfBook o → page_rows d o ≡ page_rows e o
    unfolding page_rows
    page-alike None own = refl
    page-alike (Some page) own =
        let there = own page refl in
        ap (λ rs. zone DISPLAY_ROWS (row White page.title ∷ rs))
        (map-each (λ (r : PageRow). page_row d r r.show) (λ (r : PageRow). page_row e r r.show) page.rows
        (λ j r at. row-alike r r.show (λ p is. shown_asked b there.0 j p page r there.1 at is)))

-- ---- the display of a moment

-- what the display of moment k shows, and of the values that nothing asks for these
module _ (b : Book) (m : ℕ → Moment) where
  abbrev pub display_with : ℕ → List (Option ℤ) → Display
  display_with k these = record (display b m k) { values = λ p. if is_asked_for b p then value_in b m p k else get_or these p None }

  module _ (k : ℕ) (these : List (Option ℤ)) where
    -- a value that something asks for, and one that nothing does
    asked-value : (p : ℕ) → is_asked_for b p ≡ true → (display_with k these).values p ≡ value_in b m p k
    asked-value p on = ap (λ a. if a then value_in b m p k else get_or these p None) on

    other-value : (p : ℕ) → is_asked_for b p ≡ false → (display_with k these).values p ≡ get_or these p None
    other-value p off = ap (λ a. if a then value_in b m p k else get_or these p None) off

    pub displays-with : ((p : ℕ) → p < length b.parameters → is_asked_for b p ≡ true → get_or these p None ≡ value_in b m p k) → Displays b these (display_with k these)
    unfolding display
    displays-with told = record { kinds = λ p lt. refl; values = λ p lt. by p lt (is_asked_for b p) refl } where
      by : (p : ℕ) → p < length b.parameters → (asked : Bool) → is_asked_for b p ≡ asked → (display_with k these).values p ≡ get_or these p None
      by p lt true on = asked-value p on ∙ sym (told p lt on)
      by p lt false off = other-value p off

    -- it shows a page of the book as the display does
    pub page-with : (o : Option Page) → IsOfBook b o → page_rows (display_with k these) o ≡ page_rows (display b m k) o
    unfolding display
    page-with o own = page-alike b (display_with k these) (display b m k) (λ p. refl) (λ p on. asked-value p on) o own

  -- the displays of two moments, with other values only of the parameters that are marked
  pub differ-with : (j k : ℕ) (these : List (Option ℤ)) (marks : List ℕ)
      → ((p : ℕ) → p < length b.parameters → is_asked_for b p ≡ true → is_marked marks p ≡ false → value_in b m p k ≡ value_in b m p j)
      → DifferBy b marks (display_with j these) (display_with k these)
  unfolding display
  differ-with j k these marks stays = record { kinds = λ p lt. refl; values = λ p lt off. by p lt off (is_asked_for b p) refl } where
    by : (p : ℕ) → p < length b.parameters → is_marked marks p ≡ false → (asked : Bool) → is_asked_for b p ≡ asked
        → (display_with j these).values p ≡ (display_with k these).values p
    by p lt off true on = asked-value j these p on ∙ sym (stays p lt on off) ∙ sym (asked-value k these p on)
    by p lt off false none = other-value j these p none ∙ sym (other-value k these p none)
