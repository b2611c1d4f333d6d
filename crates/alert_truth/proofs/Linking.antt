-- The alerts that list an alert as secondary, linked one in front of another.
use Rattle.std.proofs.Common.{◌≡◌, ℕ, zero, suc, ◌+◌, ◌<◌, ◌≤◌, Bool, true, false, ◌||◌, List, [], ◌∷◌, ◌++◌, length, get_or, set, Option, Some, None, cond, eqb, slice_get, refl, sym, ap, ◌∙◌, inl, inr, arith}
use Rattle.std.specs.Prelude.{find}
use Rattle.std.specs.List.{list_any}
use Rattle.std.specs.Option.{option_or}
use Rattle.std.proofs.lemmas.Bool.{cases_lt, cases_eq, eq-eqb, ne_eqb}
use Rattle.std.proofs.lemmas.List.{length-append, get_or_append_left, get_or_push, get_or-set_same, get_or-set_other}
use Rattle.std.proofs.lemmas.Option.{get_or_from_slice_get}
use Rattle.alert_truth.specs.Listed.{first_linked, first_lister, no_link, AreLinked}
use Rattle.alert_truth.specs.declared.listers.Link.{Link}
use Rattle.alert_truth.specs.declared.listers.Listers.{Listers}
use Rattle.alert_truth.proofs.Listings.{listing, find-more}

module _ (test : ℕ → Bool) (links : List Link) (earlier : (i : ℕ) → i < length links → (get_or links i no_link).rest ≤ i) where
  -- no more links are gone through than lie before the place
  pub enough : (f g place : ℕ) → place ≤ f → place ≤ g → place ≤ length links → first_linked test links f place ≡ first_linked test links g place
  unfolding first_linked
  enough zero zero zero one two within = refl
  enough zero (suc g) zero one two within = refl
  enough (suc f) zero zero one two within = refl
  enough (suc f) (suc g) zero one two within = refl
  enough zero g (suc i) one two within = absurd (omega (arith, one))
  enough (suc f) zero (suc i) one two within = absurd (omega (arith, two))
  enough (suc f) (suc g) (suc i) one two within =
      let l : Link = get_or links i no_link in
      let low : l.rest ≤ i = earlier i (omega (arith, within)) in
      ap (λ o. cond (test l.lister) (Some l.lister) o) (enough f g l.rest (omega (arith, one, low)) (omega (arith, two, low)) (omega (arith, within, low)))

  module _ (x : Link) where
    -- one link more leaves the others
    pub more : (f place : ℕ) → place ≤ length links → first_linked test (links ++ x ∷ []) f place ≡ first_linked test links f place
    unfolding first_linked
    more zero place within = refl
    more (suc f) zero within = refl
    more (suc f) (suc i) within =
        let l : Link = get_or links i no_link in
        let low : l.rest ≤ i = earlier i (omega (arith, within)) in
        ap (λ (m : Link). cond (test m.lister) (Some m.lister) (first_linked test (links ++ x ∷ []) f m.rest)) (get_or_append_left links (x ∷ []) no_link i (omega (arith, within)))
        ∙ ap (λ o. cond (test l.lister) (Some l.lister) o) (more f l.rest (omega (arith, within, low)))

    -- and stands in front of those that it leads to
    pub front : x.rest ≤ length links → first_linked test (links ++ x ∷ []) (suc (length links)) (suc (length links)) ≡ cond (test x.lister) (Some x.lister) (first_linked test links x.rest x.rest)
    unfolding first_linked
    front within =
        ap (λ (m : Link). cond (test m.lister) (Some m.lister) (first_linked test (links ++ x ∷ []) (length links) m.rest)) (get_or_push links x no_link (length links) refl)
        ∙ ap (λ o. cond (test x.lister) (Some x.lister) o) (more (length links) x.rest within ∙ enough (length links) x.rest x.rest within (omega arith) within)

-- an alert is linked in front of those that list alert p
module _ (n : ℕ) (now next : Listers) (linked : AreLinked n now) (places : length now.heads.items ≡ n) (p alert : ℕ) (within : p < n) (low : alert < n) (x : Link)
    (lister : x.lister ≡ alert) (rest : x.rest ≡ get_or now.heads.items p 0)
    (links : next.links.items ≡ now.links.items ++ x ∷ []) (heads : next.heads.items ≡ set now.heads.items p (suc (length now.links.items))) where
  many : length next.links.items ≡ suc (length now.links.items)
  many = ap length links ∙ length-append now.links.items (x ∷ []) ∙ (let e : length now.links.items + 1 ≡ suc (length now.links.items) = omega arith in e)

  own-head : get_or next.heads.items p 0 ≡ suc (length now.links.items)
  own-head = ap (λ xs. get_or xs p 0) heads ∙ get_or-set_same now.heads.items p (suc (length now.links.items)) 0 (omega (arith, within, places))

  other-head : (a : ℕ) → (a ≡ p → ⊥) → get_or next.heads.items a 0 ≡ get_or now.heads.items a 0
  other-head a apart = ap (λ xs. get_or xs a 0) heads ∙ get_or-set_other now.heads.items p a (suc (length now.links.items)) 0 apart

  rest-low : x.rest ≤ length now.links.items
  rest-low = let was = linked.heads p within in omega (arith, was, rest)

  old-link : (i : ℕ) → i < length now.links.items → get_or next.links.items i no_link ≡ get_or now.links.items i no_link
  old-link i inside = ap (λ xs. get_or xs i no_link) links ∙ get_or_append_left now.links.items (x ∷ []) no_link i inside

  new-link : get_or next.links.items (length now.links.items) no_link ≡ x
  new-link = ap (λ xs. get_or xs (length now.links.items) no_link) links ∙ get_or_push now.links.items x no_link (length now.links.items) refl

  pub put-linked : AreLinked n next
  put-linked = record {
    heads = λ a inside. elim (cases_eq a p) [
      | inl same ↦ omega (arith, many, ap (λ m. get_or next.heads.items m 0) same ∙ own-head)
      | inr apart ↦ omega (arith, many, other-head a apart, linked.heads a inside)
    ];
    earlier = λ i inside. elim (cases_lt i (length now.links.items)) [
      | inl old ↦ omega (arith, ap (λ (l : Link). l.rest) (old-link i old), linked.earlier i old)
      | inr last ↦
          let same : i ≡ length now.links.items = omega (arith, inside, many, last) in
          omega (arith, same, rest-low, ap (λ m. (get_or next.links.items m no_link).rest) same ∙ ap (λ (l : Link). l.rest) new-link)
    ];
    listers = λ i inside. elim (cases_lt i (length now.links.items)) [
      | inl old ↦ omega (arith, ap (λ (l : Link). l.lister) (old-link i old), linked.listers i old)
      | inr last ↦
          let same : i ≡ length now.links.items = omega (arith, inside, many, last) in
          omega (arith, low, ap (λ m. (get_or next.links.items m no_link).lister) same ∙ ap (λ (l : Link). l.lister) new-link ∙ lister)
    ];
  }

  module _ (test : ℕ → Bool) where
    place-first : (place : ℕ) → place ≤ length now.links.items → first_linked test next.links.items place place ≡ first_linked test now.links.items place place
    place-first place inside = ap (λ xs. first_linked test xs place place) links ∙ more test now.links.items linked.earlier x place place inside

    own-first : first_lister test next p ≡ cond (test alert) (Some alert) (first_lister test now p)
    own-first =
        ap (λ h. first_linked test next.links.items h h) own-head
        ∙ ap (λ xs. first_linked test xs (suc (length now.links.items)) (suc (length now.links.items))) links
        ∙ front test now.links.items linked.earlier x rest-low
        ∙ ap (λ h. cond (test x.lister) (Some x.lister) (first_linked test now.links.items h h)) rest
        ∙ ap (λ m. cond (test m) (Some m) (first_lister test now p)) lister

    -- so it is the first that lists it, if it passes
    pub put-first : (a : ℕ) → a < n → first_lister test next a ≡ cond (eqb p a) (cond (test alert) (Some alert) (first_lister test now a)) (first_lister test now a)
    put-first a inside = elim (cases_eq p a) [
      | inl same ↦
          ap (first_lister test next) (sym same) ∙ own-first ∙ ap (λ m. cond (test alert) (Some alert) (first_lister test now m)) same
          ∙ sym (ap (λ e. cond e (cond (test alert) (Some alert) (first_lister test now a)) (first_lister test now a)) (eq-eqb p a same))
      | inr apart ↦
          ap (λ h. first_linked test next.links.items h h) (other-head a (λ e. apart (sym e)))
          ∙ place-first (get_or now.heads.items a 0) (linked.heads a inside)
          ∙ sym (ap (λ e. cond e (cond (test alert) (Some alert) (first_lister test now a)) (first_lister test now a)) (ne_eqb p a apart))
    ]

-- an alert that is linked for one secondary more
pub put-more : (passes before here : Bool) (own first : Option ℕ)
    → cond here (cond passes own (cond before (cond passes own first) first)) (cond before (cond passes own first) first) ≡ cond (before || here) (cond passes own first) first
put-more true true true own first = refl
put-more true true false own first = refl
put-more true false true own first = refl
put-more true false false own first = refl
put-more false true true own first = refl
put-more false true false own first = refl
put-more false false true own first = refl
put-more false false false own first = refl

in-front : (before : Option ℕ) (lists_it passes : Bool) (k : ℕ) (first : Option ℕ)
    → option_or before (cond lists_it (cond passes (Some k) first) first) ≡ option_or (option_or before (cond lists_it (cond passes (Some k) None) None)) first
in-front (Some x) lists_it passes k first = refl
in-front None true true k first = refl
in-front None true false k first = refl
in-front None false passes k first = refl

-- where the alerts from the next one on are linked, those from k on are
pub linked-more : (test : ℕ → Bool) (lists : List (List ℕ)) (a k : ℕ) (own : List ℕ) (old new all : Option ℕ) → slice_get lists k ≡ Some own
    → new ≡ cond (list_any (λ s. eqb s a) own) (cond (test k) (Some k) old) old → option_or (find test (listing lists a (suc k))) old ≡ all → option_or (find test (listing lists a k)) new ≡ all
linked-more test lists a k own old new all at is rest =
    ap (option_or (find test (listing lists a k))) (is ∙ ap (λ xs. cond (list_any (λ s. eqb s a) xs) (cond (test k) (Some k) old) old) (sym (get_or_from_slice_get lists k own [] at)))
    ∙ in-front (find test (listing lists a k)) (list_any (λ s. eqb s a) (get_or lists k [])) (test k) k old
    ∙ ap (λ o. option_or o old) (sym (find-more test lists a k))
    ∙ rest

-- no link leads on from the end
pub at-end : (test : ℕ → Bool) (links : List Link) (place : ℕ) → place ≡ 0 → first_linked test links place place ≡ None
unfolding first_linked
at-end test links place end = ap (λ h. first_linked test links h h) end

-- the first from a place on is the one that is linked there, if it passes
pub first-passes : (test : ℕ → Bool) (links : List Link) (place i : ℕ) → place ≡ suc i → test (get_or links i no_link).lister ≡ true
    → first_linked test links place place ≡ Some (get_or links i no_link).lister
unfolding first_linked
first-passes test links place i at passes =
    let l : Link = get_or links i no_link in
    ap (λ h. first_linked test links h h) at ∙ ap (λ t. cond t (Some l.lister) (first_linked test links i l.rest)) passes

-- else the first from the next one on
pub first-fails : (test : ℕ → Bool) (links : List Link) → ((i : ℕ) → i < length links → (get_or links i no_link).rest ≤ i) → (place i : ℕ) → place ≡ suc i → i < length links
    → test (get_or links i no_link).lister ≡ false → first_linked test links place place ≡ first_linked test links (get_or links i no_link).rest (get_or links i no_link).rest
unfolding first_linked
first-fails test links earlier place i at within fails =
    let l : Link = get_or links i no_link in
    let low : l.rest ≤ i = earlier i within in
    ap (λ h. first_linked test links h h) at ∙ ap (λ t. cond t (Some l.lister) (first_linked test links i l.rest)) fails
    ∙ enough test links earlier i l.rest l.rest low (omega arith) (omega (arith, low, within))

pub or-none : (o : Option ℕ) → option_or o None ≡ o
or-none None = refl
or-none (Some x) = refl
