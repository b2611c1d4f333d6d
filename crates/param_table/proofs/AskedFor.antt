-- Which parameters are asked for, told by the numbers of operands and by the rows of pages.
use Rattle.std.proofs.Common.{◌≡◌, ℕ, zero, suc, ◌+◌, ◌<◌, ◌≤◌, eqb, Bool, true, false, not, ◌||◌, List, [], ◌∷◌, length, map, set, get_or, take, slice_get, All, ◌⊎◌, Option, Some, None, refl, sym, ap, subst, ◌∙◌, arith, inl, inr}
use Rattle.std.specs.List.{list_any}
use Rattle.std.specs.Option.{option_map_or}
use Rattle.std.proofs.lemmas.Bool.{cases_eq, ne_eqb, eq-eqb, or_left, or_right, false≢true}
use Rattle.std.proofs.lemmas.Option.{same_Some, none-some}
use Rattle.std.proofs.lemmas.List.{get_or-set_same, get_or-set_other, take_all, length-map}
use Rattle.std.proofs.lemmas.List.Folds.{list_any_more}
use Rattle.std.specs.Prelude.{IfSome}
use Rattle.ecam_spec.specs.Book.{Tree, PageRow, Page, Book}
use Rattle.ecam_spec.specs.KeepsLimits.{IsSoundRow}
use Rattle.ecam_spec.specs.TermSize.{Placed}
use Rattle.book_model.specs.declared.draft.Draft.{Draft}
use Rattle.book_model.specs.declared.draft.Page as draft_page
use Rattle.book_model.specs.declared.draft.PageRow as draft_row
use Rattle.book_model.specs.View.{page_of, row_of}
use Rattle.book_model.specs.Sealed.{the_book}
use Rattle.book_model.specs.Conditions.{places}
use Rattle.book_model.proofs.BookLists.{book-pages, many-parameters}
use Rattle.book_model.proofs.BookReads.{view-read}
use Rattle.term_eval.specs.Woken.{Operand, operands}
use Rattle.term_eval.specs.Woken.Operand.{value, phase, activity, key, health}
use Rattle.watch_lists.specs.declared.number.Sizes.{Sizes}
use Rattle.watch_lists.specs.Naming.{sizes_of, operand_number, names, names_at}
use Rattle.watch_lists.specs.Watching.{NoneNamed}
use Rattle.param_table.specs.Asked.{is_value_of, names_value, is_named, is_shown_in, shows, is_shown, is_asked_for}

-- ---- some of a list pass a test

any-alike : {X : Type 0} (f g : X → Bool) → ((x : X) → f x ≡ g x) → (xs : List X) → list_any f xs ≡ list_any g xs
any-alike f g same [] = refl
any-alike f g same (x ∷ xs) = ap (λ b. b || list_any f xs) (same x) ∙ ap (λ b. g x || b) (any-alike f g same xs)

pub any-at : {X : Type 0} (f : X → Bool) (xs : List X) (i : ℕ) (x : X) → slice_get xs i ≡ Some x → f x ≡ true → list_any f xs ≡ true
any-at f [] zero x is passes = absurd (none-some x is)
any-at f [] (suc i) x is passes = absurd (none-some x is)
any-at f (y ∷ ys) zero x is passes = or_left (f y) (list_any f ys) (ap f (same_Some y x is) ∙ passes)
any-at f (y ∷ ys) (suc i) x is passes = or_right (f y) (list_any f ys) (any-at f ys i x is passes)

any-no : {X : Type 0} (f : X → Bool) (xs : List X) → ((i : ℕ) (x : X) → slice_get xs i ≡ Some x → f x ≡ false) → list_any f xs ≡ false
any-no f [] none = refl
any-no f (x ∷ xs) none = ap (λ b. b || list_any f xs) (none 0 x refl) ∙ any-no f xs (λ i y is. none (suc i) y is)

-- ---- below the number of parameters, operand numbers are those of values

module _ (n : Sizes) (p : ℕ) (few : p < n.params) where
  past : (m : ℕ) → n.params ≤ m → eqb m p ≡ false
  past m above = ne_eqb m p (λ e. omega arith)

  is-value : (x : Operand) → eqb (operand_number n x) p ≡ is_value_of p x
  is-value (value q) = refl
  is-value phase = past (n.params + n.alerts) (omega arith)
  is-value (activity a) = past (n.params + a) (omega arith)
  is-value (key x) = past (operand_number n (key x)) (omega arith)
  is-value (health c) = past (n.params + n.alerts + 25 + c) (omega arith)

  pub names-value : (c : Tree) → names n c p ≡ names_value p c
  names-value c = any-alike (λ x. eqb (operand_number n x) p) (is_value_of p) is-value (operands c)

  pub named-at : (ps : List Placed) (j : ℕ) (c : Placed) → slice_get ps j ≡ Some c → names_at n ps j p ≡ names_value p c.tree
  unfolding names_at
  named-at ps j c is = ap (λ found. option_map_or (λ (t : Placed). names n t.tree p) found false) is ∙ names-value c.tree

  -- the condition that a number has, where it names something
  pub named-some : (ps : List Placed) (j : ℕ) → names_at n ps j p ≡ true → list_any (λ (c : Placed). names_value p c.tree) ps ≡ true
  unfolding names_at
  named-some ps j is = by (slice_get ps j) refl is where
    by : (found : Option Placed) → slice_get ps j ≡ found → option_map_or (λ (t : Placed). names n t.tree p) found false ≡ true
        → list_any (λ (c : Placed). names_value p c.tree) ps ≡ true
    by None at named = absurd (let w : ⊥ = (let clash : false ≡ true = named in cc) in w)
    by (Some c) at named = any-at (λ (t : Placed). names_value p t.tree) ps j c at (sym (names-value c.tree) ∙ named)

-- ---- what is asked for

module _ (d : Draft) where
  few-in : (p : ℕ) → p < length (the_book d).parameters → p < (sizes_of d).params
  few-in p lt = omega (arith, lt, many-parameters d)

  pub names_named : (j p : ℕ) → p < length (the_book d).parameters → names_at (sizes_of d) (places (the_book d)) j p ≡ true → is_named (the_book d) p ≡ true
  names_named j p lt is = named-some (sizes_of d) p (few-in p lt) (places (the_book d)) j is

  -- what a condition names is asked for
  pub names_asked : (j p : ℕ) → p < length (the_book d).parameters → names_at (sizes_of d) (places (the_book d)) j p ≡ true → is_asked_for (the_book d) p ≡ true
  unfolding is_asked_for
  names_asked j p lt is = or_left (is_named (the_book d) p) (is_shown (the_book d) p) (names_named j p lt is)

  pub none_unnamed : (p : ℕ) → p < length (the_book d).parameters → NoneNamed d p (p + 1) → is_named (the_book d) p ≡ false
  none_unnamed p lt none =
      any-no (λ (c : Placed). names_value p c.tree) (places (the_book d))
      (λ j c is. sym (named-at (sizes_of d) p (few-in p lt) (places (the_book d)) j c is) ∙ none p j (omega arith) (omega arith))

  pub unnamed_none : (p : ℕ) → p < length (the_book d).parameters → is_named (the_book d) p ≡ false → NoneNamed d p (p + 1)
  unnamed_none p lt off o j low high =
      let own : o ≡ p = omega arith in
      ap (names_at (sizes_of d) (places (the_book d)) j) own ∙ by (names_at (sizes_of d) (places (the_book d)) j p) refl where
        by : (b : Bool) → names_at (sizes_of d) (places (the_book d)) j p ≡ b → names_at (sizes_of d) (places (the_book d)) j p ≡ false
        by false is = is
        by true is = absurd (let w : ⊥ = (let clash : true ≡ false = sym (names_named j p lt is) ∙ off in cc) in w)

-- what a row of a page shows is asked for
pub shown_asked : (b : Book) (i j p : ℕ) (page : Page) (row : PageRow) → slice_get b.pages i ≡ Some page → slice_get page.rows j ≡ Some row → row.show ≡ Some p → is_asked_for b p ≡ true
unfolding is_asked_for
shown_asked b i j p page row at there is =
    or_right (is_named b p) (is_shown b p)
    (any-at (shows p) b.pages i page at
    (any-at (is_shown_in p) page.rows j row there
    (ap (λ shown. option_map_or (λ q. eqb q p) shown false) is ∙ eq-eqb p p refl)))

-- ---- as it is found, condition by condition and row by row

pub silent_named : (d : Draft) (p : ℕ) (silent : Bool) → p < length (the_book d).parameters → (silent ≡ true → NoneNamed d p (p + 1)) → (NoneNamed d p (p + 1) → silent ≡ true)
    → not silent ≡ is_named (the_book d) p
silent_named d p true lt there back = sym (none_unnamed d p lt (there refl))
silent_named d p false lt there back = by (is_named (the_book d) p) refl where
  by : (b : Bool) → is_named (the_book d) p ≡ b → true ≡ is_named (the_book d) p
  by true is = sym is
  by false is = absurd (false≢true (back (unnamed_none d p lt is)))

any-map : {X Y : Type 0} (f : Y → Bool) (g : X → Y) (xs : List X) → list_any f (map g xs) ≡ list_any (λ x. f (g x)) xs
any-map f g [] = refl
any-map f g (x ∷ xs) = ap (λ b. f (g x) || b) (any-map f g xs)

or-assoc : (a b c : Bool) → ((a || b) || c) ≡ (a || (b || c))
or-assoc true b c = refl
or-assoc false b c = refl

or-none : (a : Bool) → (a || false) ≡ a
or-none true = refl
or-none false = refl

-- one more of a list
pub one_more : {X Y : Type 0} (f : Y → Bool) (g : X → Y) (xs : List X) (i : ℕ) (x : X) (old was now : Bool) → i < length xs → x ≡ get_or xs i x
    → was ≡ (old || list_any f (map g (take i xs))) → now ≡ (was || f (g x)) → now ≡ (old || list_any f (map g (take (i + 1) xs)))
one_more f g xs i x old was now less here before one =
    one ∙ ap (λ b. b || f (g x)) before ∙ or-assoc old (list_any f (map g (take i xs))) (f (g x))
    ∙ ap (λ b. old || (b || f (g x))) (any-map f g (take i xs))
    ∙ ap (λ y. old || (list_any (λ z. f (g z)) (take i xs) || f (g y))) here
    ∙ sym (ap (λ b. old || b) (any-map f g (take (i + 1) xs) ∙ list_any_more (λ z. f (g z)) xs i x less))

pub all_of : {X Y : Type 0} (f : Y → Bool) (g : X → Y) (xs : List X) (n : ℕ) (old now : Bool) → length xs ≤ n
    → now ≡ (old || list_any f (map g (take n xs))) → now ≡ (old || list_any f (map g xs))
all_of f g xs n old now enough is = is ∙ ap (λ ys. old || list_any f (map g ys)) (take_all n xs enough)

-- the flag of the parameter that a row shows is set
pub row_written : (asked : List Bool) (row : PageRow) (q : ℕ) → row.show ≡ Some q → q < length asked → (p : ℕ) → get_or (set asked q true) p false ≡ (get_or asked p false || is_shown_in p row)
row_written asked row q is within p = by (cases_eq p q) ∙ sym (ap (λ o. get_or asked p false || option_map_or (λ r. eqb r p) o false) is) where
  by : (p ≡ q) ⊎ (p ≡ q → ⊥) → get_or (set asked q true) p false ≡ (get_or asked p false || eqb q p)
  by (inl e) =
      ap (λ i. get_or (set asked q true) i false) e ∙ get_or-set_same asked q true false within
      ∙ sym (or_right (get_or asked p false) (eqb q p) (eq-eqb q p (sym e)))
  by (inr ne) =
      get_or-set_other asked q p true false ne ∙ sym (or-none (get_or asked p false))
      ∙ sym (ap (λ b. get_or asked p false || b) (ne_eqb q p (λ e. ne (sym e))))

pub row_left : (was : Bool) (row : PageRow) (p : ℕ) → row.show ≡ None → was ≡ (was || is_shown_in p row)
row_left was row p is = sym (or-none was) ∙ sym (ap (λ o. was || option_map_or (λ r. eqb r p) o false) is)

-- a row that is read shows a parameter that is there
pub shown_few : (many : ℕ) (rows : List draft_row.PageRow) (i : ℕ) (x : draft_row.PageRow) (p : ℕ) → All (IsSoundRow many) (map row_of rows) → i < length rows → x ≡ get_or rows i x
    → x.show ≡ Some p → p < many
shown_few many rows i x p sound within here is =
    let own : IsSoundRow many (row_of x) = subst (IsSoundRow many) (view-read row_of rows i x within here (row_of x)) (sound i (row_of x) (omega (arith, length-map rows row_of))) in
    subst (λ o. IfSome o (λ q. q < many)) is own.show

pub pages_asked : (d : Draft) (p : ℕ) (pages : List draft_page.Page) (n : ℕ) (now : Bool) → pages ≡ d.pages.items → length pages ≤ n
    → now ≡ (is_named (the_book d) p || list_any (shows p) (map page_of (take n pages))) → now ≡ is_asked_for (the_book d) p
unfolding is_asked_for
pages_asked d p pages n now same enough is =
    all_of (shows p) page_of pages n (is_named (the_book d) p) now enough is
    ∙ ap (λ ps. is_named (the_book d) p || list_any (shows p) ps) (ap (map page_of) same ∙ sym (book-pages d))
