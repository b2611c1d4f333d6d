-- The conditions of a book, put into the lists one after another.
use Rattle.std.proofs.Common.{◌≡◌, ℕ, suc, ◌<◌, ◌≤◌, Bool, true, false, ◌&&◌, ◌||◌, nat_lt, List, length, slice_get, Some, None, Option, refl, sym, ap, ◌∙◌, subst, inl, inr, arith}
use Rattle.std.specs.Option.{option_map_or}
use Rattle.std.proofs.lemmas.Bool.{cases_eq, cases_lt, eq-eqb, ne_eqb, lt-ltb, le-ltb}
use Rattle.std.proofs.lemmas.Option.{slice_get_within}
use Rattle.ecam_spec.specs.TermSize.{Placed}
use Rattle.watch_lists.specs.declared.number.Sizes.{Sizes}
use Rattle.watch_lists.specs.Naming.{names, names_at}
use Rattle.watch_lists.specs.Listed.{is_listed, Adds, ListsBelow, ListsNone, ListsAll}

off : (a : Bool) → (a || false) ≡ a
off true = refl
off false = refl

-- one condition more
module _ (sizes : Sizes) (ps : List Placed) (n : ℕ) (p : Placed) (here : slice_get ps n ≡ Some p) (old new : List (List ℕ)) (adds : Adds n (names sizes p.tree) old new) (below : ListsBelow sizes ps n old) where
  named : (o : ℕ) → names_at sizes ps n o ≡ names sizes p.tree o
  unfolding names_at
  named o = ap (λ x. option_map_or (λ (q : Placed). names sizes q.tree o) x false) here

  before : (o j : ℕ) → j < n → is_listed new o j ≡ (nat_lt j (suc n) && names_at sizes ps j o)
  before o j lt =
      adds o j
      ∙ ap (λ b. (b && names sizes p.tree o) || is_listed old o j) (ne_eqb n j (λ e. absurd (omega arith)))
      ∙ below o j
      ∙ ap (λ b. b && names_at sizes ps j o) (lt-ltb j n lt ∙ sym (lt-ltb j (suc n) (omega arith)))

  own : (o : ℕ) → is_listed new o n ≡ (nat_lt n (suc n) && names_at sizes ps n o)
  own o =
      adds o n
      ∙ ap (λ b. (b && names sizes p.tree o) || is_listed old o n) (eq-eqb n n refl)
      ∙ ap (λ b. names sizes p.tree o || b) (below o n ∙ ap (λ b. b && names_at sizes ps n o) (le-ltb n n (omega arith)))
      ∙ off (names sizes p.tree o)
      ∙ sym (named o)
      ∙ ap (λ b. b && names_at sizes ps n o) (sym (lt-ltb n (suc n) (omega arith)))

  behind : (o j : ℕ) → n < j → is_listed new o j ≡ (nat_lt j (suc n) && names_at sizes ps j o)
  behind o j lt =
      adds o j
      ∙ ap (λ b. (b && names sizes p.tree o) || is_listed old o j) (ne_eqb n j (λ e. absurd (omega arith)))
      ∙ below o j
      ∙ ap (λ b. b && names_at sizes ps j o) (le-ltb j n (omega arith) ∙ sym (le-ltb j (suc n) (omega arith)))

  pub below-next : ListsBelow sizes ps (suc n) new
  below-next o j = elim (cases_lt j n) [
    | inl lt ↦ before o j lt
    | inr le ↦
        elim (cases_eq n j) [
          | inl e ↦ subst (λ i. is_listed new o i ≡ (nat_lt i (suc n) && names_at sizes ps i o)) e (own o)
          | inr ne ↦ behind o j (omega arith)
        ]
  ]

pub below-none : (sizes : Sizes) (ps : List Placed) (lists : List (List ℕ)) → ListsNone lists → ListsBelow sizes ps 0 lists
below-none sizes ps lists none o j = none o j ∙ ap (λ b. b && names_at sizes ps j o) (sym (le-ltb j 0 (omega arith)))

-- no condition is left
module _ (sizes : Sizes) (ps : List Placed) (n : ℕ) (lists : List (List ℕ)) (all : length ps ≤ n) (below : ListsBelow sizes ps n lists) where
  unnamed : (x : Option Placed) (o j : ℕ) → slice_get ps j ≡ x → n ≤ j → option_map_or (λ (q : Placed). names sizes q.tree o) x false ≡ false
  unnamed None o j is le = refl
  unnamed (Some p) o j is le = absurd (omega (arith, slice_get_within ps j p is))

  pub below-all : ListsAll sizes ps lists
  unfolding names_at
  below-all o j = elim (cases_lt j n) [
    | inl lt ↦ below o j ∙ ap (λ b. b && names_at sizes ps j o) (lt-ltb j n lt)
    | inr le ↦ below o j ∙ ap (λ b. b && names_at sizes ps j o) (le-ltb j n le) ∙ sym (unnamed (slice_get ps j) o j refl le)
  ]
