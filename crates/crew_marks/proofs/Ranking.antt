-- The alerts by their places in the order.
use Rattle.std.proofs.Common.{◌≡◌, ℕ, zero, suc, ◌+◌, ◌<◌, ◌≤◌, ◌≢◌, Bool, true, false, not, ◌||◌, ◌==◌, cond, inl, inr, Some, None, List, [], ◌∷◌, length, get_or, set, refl, sym, ◌∙◌, ap, subst, arith}
use Rattle.std.specs.List.{find}
use Rattle.std.proofs.lemmas.Bool.{cases_lt, eqb-true, false≢true, lt-ltb, and_parts, or_right}
use Rattle.std.proofs.lemmas.List.{get_or-set_same, get_or-set_other, length-set}
use Rattle.ecam_spec.specs.Book.{Book}
use Rattle.ecam_spec.specs.Screen.{order}
use Rattle.ecam_spec.proofs.ListLaws.{mem, distinct, eqb-self}
use Rattle.ecam_spec.proofs.OrderLaws.{length-order}
use Rattle.wakes.specs.Marks as numbers
use Rattle.wakes.specs.Marks.{room}
use Rattle.crew_marks.specs.declared.mark.Mark.{Mark}
use Rattle.crew_marks.specs.Ranks.{AreRanks, TellsPlaces}
use Rattle.crew_marks.specs.MarkSets.{MarkSets, set_mark, room_for, AreRanked, HasMark}
use Rattle.crew_marks.proofs.Orders.{mem-order}

-- ---- members

at-mem : (xs : List ℕ) (i : ℕ) → i < length xs → mem (get_or xs i 0) xs ≡ true
at-mem [] i within = absurd (let w : ⊥ = omega arith in w)
at-mem (x ∷ xs) zero within = ap (λ b. b || mem x xs) (eqb-self x)
at-mem (x ∷ xs) (suc i) within = or_right (get_or xs i 0 == x) (mem (get_or xs i 0) xs) (at-mem xs i (omega arith))

place-here : (a x : ℕ) (xs : List ℕ) (b : Bool) → (a == x) ≡ b → (b || mem a xs) ≡ true
    → ((mem a xs ≡ true) → (r : ℕ) × (r < length xs) × (get_or xs r 0 ≡ a))
    → (r : ℕ) × (r < length (x ∷ xs)) × (get_or (x ∷ xs) r 0 ≡ a)
place-here a x xs true e h rest = (0, omega arith, sym (eqb-true a x e))
place-here a x xs false e h rest = let found = rest h in (suc found.0, (let w = found.1 in omega (arith, w)), found.2)

-- a member has a place
mem-place : (a : ℕ) (xs : List ℕ) → mem a xs ≡ true → (r : ℕ) × (r < length xs) × (get_or xs r 0 ≡ a)
mem-place a [] h = absurd (false≢true h)
mem-place a (x ∷ xs) h = place-here a x xs (a == x) refl h (mem-place a xs)

-- two places of a list in which none stands twice hold two numbers
distinct-apart : (xs : List ℕ) (i j : ℕ) → distinct xs ≡ true → i < j → j < length xs → get_or xs i 0 ≢ get_or xs j 0
distinct-apart [] i j d less within = λ e. absurd (let w : ⊥ = omega arith in w)
distinct-apart (x ∷ xs) i zero d less within = λ e. absurd (let w : ⊥ = omega arith in w)
distinct-apart (x ∷ xs) zero (suc j) d less within =
    λ e. absurd (false≢true (sym (not-member (mem x xs) (and_parts _ (distinct xs) d).0) ∙ ap (λ n. mem n xs) e ∙ at-mem xs j (omega arith))) where
      not-member : (b : Bool) → not b ≡ true → b ≡ false
      not-member false h = refl
      not-member true h = absurd (false≢true h)
distinct-apart (x ∷ xs) (suc i) (suc j) d less within = distinct-apart xs i j ((and_parts _ (distinct xs) d).1) (omega arith) (omega arith)

-- ---- the places that are written one by one

-- those of the first i of the order are written
abbrev pub ArePlaced : List ℕ → ℕ → List ℕ → Type 0
ArePlaced order i ranks = (r : ℕ) → r < i → get_or ranks (get_or order r 0) 0 ≡ r

pub place-more : (order ranks : List ℕ) (i : ℕ) → distinct order ≡ true → i < length order → get_or order i 0 < length ranks
    → ArePlaced order i ranks → ArePlaced order (i + 1) (set ranks (get_or order i 0) i)
place-more order ranks i once within has placed r h =
    elim (cases_lt r i) [
      | inl low ↦ get_or-set_other ranks (get_or order i 0) (get_or order r 0) i 0 (distinct-apart order r i once low within) ∙ placed r low
      | inr high ↦ let is : r ≡ i = omega arith in rw is (get_or-set_same ranks (get_or order i 0) i 0 has)
    ]

module _ (b : Book) (ranks : List ℕ) (many : length ranks ≡ length b.alerts) (placed : ArePlaced (order b) (length (order b)) ranks) where
  place-of : (a : ℕ) → a < length ranks → (r : ℕ) × (r < length (order b)) × (get_or (order b) r 0 ≡ a)
  place-of a within = mem-place a (order b) (mem-order b a ∙ lt-ltb a (length b.alerts) (omega (arith, many)))

  rank-is : (a : ℕ) (within : a < length ranks) → get_or ranks a 0 ≡ (place-of a within).0
  rank-is a within =
      let found = place-of a within in
      ap (λ n. get_or ranks n 0) (sym found.2) ∙ placed found.0 found.1

  pub all-placed : AreRanks (order b) ranks
  all-placed = record {
    many = many ∙ sym (length-order b);
    within = λ a within. let is = rank-is a within in let low = (place-of a within).1 in omega (arith, is, low);
    is = λ a within. ap (λ r. get_or (order b) r 0) (rank-is a within) ∙ (place-of a within).2;
    of = placed;
  }

-- ---- the set of the places of those that are shown

pub rank-within : (s : MarkSets) (ranks set : List ℕ) (a rank : ℕ) → AreRanked s ranks set → a < length ranks → rank ≡ get_or ranks a 0 → rank < room set
rank-within s ranks set a rank are within is = let low = are.places.within a within in omega (arith, is, low, are.room)

module _ (s : MarkSets) (ranks old new : List ℕ) (a rank : ℕ) (m : Mark) (has : HasMark s a) (ranked : rank ≡ get_or ranks a 0) (roomy : room new ≡ room old)
    (puts : (r : ℕ) → numbers.is_marked new r ≡ cond (r == rank) m.shown (numbers.is_marked old r)) (are : AreRanked s ranks old) where
  in_ranks : a < length ranks
  in_ranks = omega (arith, are.many, has.shown)

  told-at : (r : ℕ) (t : Bool) → r < length s.order → (r == rank) ≡ t → numbers.is_marked new r ≡ get_or (set s.shown a m.shown) (get_or s.order r 0) false
  told-at r true within e =
      let here : get_or s.order r 0 ≡ a = ap (λ n. get_or s.order n 0) (eqb-true r rank e ∙ ranked) ∙ are.places.is a in_ranks in
      puts r ∙ ap (λ t. cond t m.shown (numbers.is_marked old r)) e
      ∙ sym (ap (λ n. get_or (set s.shown a m.shown) n false) here ∙ get_or-set_same s.shown a m.shown false has.shown)
  told-at r false within e =
      let apart : get_or s.order r 0 ≢ a =
      λ same. false≢true (sym e ∙ ap (λ n. r == n) (ranked ∙ ap (λ n. get_or ranks n 0) (sym same) ∙ are.places.of r within) ∙ eqb-self r) in
      puts r ∙ ap (λ t. cond t m.shown (numbers.is_marked old r)) e ∙ are.told r within
      ∙ sym (get_or-set_other s.shown a (get_or s.order r 0) m.shown false apart)

  pub ranked-set : AreRanked (set_mark s a m) ranks new
  ranked-set = record {
    places = are.places;
    many = are.many ∙ sym (length-set s.shown a m.shown);
    room = roomy ∙ are.room;
    told = λ r within. told-at r (r == rank) within refl;
  }

pub unset-ranked : (s : MarkSets) (ranks set : List ℕ) → AreRanks s.order ranks → length ranks ≡ length s.shown → room set ≡ room_for (length s.order)
    → ((a : ℕ) → get_or s.shown a false ≡ false) → ((r : ℕ) → numbers.is_marked set r ≡ false) → AreRanked s ranks set
unset-ranked s ranks set are many roomy off none = record { places = are; many = many; room = roomy; told = λ r within. none r ∙ sym (off (get_or s.order r 0)) }

-- the same of others of the same book
pub copied-ranked : (s t : MarkSets) (ranks others set : List ℕ) → s.order ≡ t.order → s.shown ≡ t.shown → AreRanks s.order ranks → AreRanked t others set → AreRanked s ranks set
copied-ranked s t ranks others set ordered shown places are = record {
  places = places;
  many = places.many ∙ ap length ordered ∙ sym are.places.many ∙ are.many ∙ ap length (sym shown);
  room = are.room ∙ ap (λ xs. room_for (length xs)) (sym ordered);
  told = subst (λ xs. TellsPlaces s.order xs set) (sym shown) (subst (λ xs. TellsPlaces xs t.shown set) (sym ordered) are.told);
}

-- ---- the first that is shown

find-at : (p : ℕ → Bool) (xs : List ℕ) (i : ℕ) → i < length xs → p (get_or xs i 0) ≡ true → ((j : ℕ) → j < i → p (get_or xs j 0) ≡ false) → find p xs ≡ Some (get_or xs i 0)
find-at p [] i within on none = absurd (let w : ⊥ = omega arith in w)
find-at p (x ∷ xs) zero within on none = rw on refl
find-at p (x ∷ xs) (suc i) within on none = rw (none 0 (omega arith)) (find-at p xs i (omega arith) on (λ j h. none (suc j) (omega arith)))

find-nowhere : (p : ℕ → Bool) (xs : List ℕ) → ((j : ℕ) → j < length xs → p (get_or xs j 0) ≡ false) → find p xs ≡ None
find-nowhere p [] none = refl
find-nowhere p (x ∷ xs) none = rw (none 0 (omega arith)) (find-nowhere p xs (λ j h. none (suc j) (omega arith)))

module _ (s : MarkSets) (ranks set : List ℕ) (rank : ℕ) (are : AreRanked s ranks set) (none : (r : ℕ) → 0 ≤ r → r < rank → numbers.is_marked set r ≡ false) where
  unshown : (r : ℕ) → r < rank → r < length s.order → get_or s.shown (get_or s.order r 0) false ≡ false
  unshown r low within = sym (are.told r within) ∙ none r (omega arith) low

  pub first-at : rank < length s.order → numbers.is_marked set rank ≡ true → find (λ a. get_or s.shown a false) s.order ≡ Some (get_or s.order rank 0)
  first-at within on =
      find-at (λ a. get_or s.shown a false) s.order rank within (sym (are.told rank within) ∙ on) (λ r low. unshown r low (omega arith))

  pub first-nowhere : length s.order ≤ rank → find (λ a. get_or s.shown a false) s.order ≡ None
  first-nowhere past = find-nowhere (λ a. get_or s.shown a false) s.order (λ r within. unshown r (omega arith) within)
