-- The numbers of mailboxes: sources have the same one just where they are of one bus, label and SDI.
use Rattle.std.proofs.Common.{◌≡◌, ℕ, zero, suc, ◌+◌, ◌-◌, ◌<◌, ◌≤◌, ◌==◌, ◌&&◌, Bool, true, false, cond, List, Option, Some, None, refl, sym, ap, ◌∙◌, subst, arith, inl, inr}
use Rattle.std.specs.Prelude.{IfSome, is_none}
use Rattle.std.specs.Option.{option_map_or, option_or}
use Rattle.std.proofs.lemmas.Bool.{cases_Bool, cases_lt, cases_order, and_parts, eqb-true, eq-eqb, false≢true}
use Rattle.std.proofs.lemmas.Option.{same_Some, none-some}
use Rattle.ecam_spec.specs.Book.{Source, Parameter}
use Rattle.book_model.specs.SourcePlaces.{source_at, passes}
use Rattle.param_table.specs.Rules.{slot_of, is_of, first_below, first_of, opens, openers, number_of}
use Rattle.param_table.proofs.Sources.{source_there}

-- ---- the first number that passes

pub first_below-suc : (p : ℕ → Bool) (n : ℕ) → first_below p (suc n) ≡ option_or (first_below p n) (cond (p n) (Some n) None)
unfolding first_below
first_below-suc p n = by (first_below p n) refl where
  by : (o : Option ℕ) → first_below p n ≡ o → first_below p (suc n) ≡ option_or o (cond (p n) (Some n) None)
  by None is = rw is refl
  by (Some f) is = rw is refl

pub first_below-zero : (p : ℕ → Bool) → first_below p 0 ≡ None
unfolding first_below
first_below-zero p = refl

-- it passes, is below n, and none before it passes
pub record IsFirst (p : ℕ → Bool) (n f : ℕ) : Type 0 where
  pub less : f < n
  pub passes : p f ≡ true
  pub before : (i : ℕ) → i < f → p i ≡ false

pub first_is : (p : ℕ → Bool) (n : ℕ) → (IfSome (first_below p n) (IsFirst p n)) × (first_below p n ≡ None → (i : ℕ) → i < n → p i ≡ false)
first_is p zero = (rw first_below-zero tt, λ none i less. absurd (omega arith))
first_is p (suc n) = by (first_below p n) refl (first_is p n) where
  by : (o : Option ℕ) → first_below p n ≡ o → (IfSome (first_below p n) (IsFirst p n)) × (first_below p n ≡ None → (i : ℕ) → i < n → p i ≡ false)
      → (IfSome (first_below p (suc n)) (IsFirst p (suc n))) × (first_below p (suc n) ≡ None → (i : ℕ) → i < suc n → p i ≡ false)
  by (Some f) is was =
      let first : IsFirst p n f = subst (λ o. IfSome o (IsFirst p n)) is was.0 in
      let same : first_below p (suc n) ≡ Some f = first_below-suc p n ∙ ap (λ o. option_or o (cond (p n) (Some n) None)) is in
      (rw same (record { less = omega (arith, first.less); passes = first.passes; before = first.before }), λ none. absurd (none-some f (sym none ∙ same)))
  by None is was = elim (cases_Bool (p n)) [
    | inl so ↦
        let here : first_below p (suc n) ≡ Some n = first_below-suc p n ∙ ap (λ o. option_or o (cond (p n) (Some n) None)) is ∙ ap (λ b. cond b (Some n) None) so in
        (rw here (record { less = omega arith; passes = so; before = was.1 is }), λ none. absurd (none-some n (sym none ∙ here)))
    | inr not_so ↦
        let still : first_below p (suc n) ≡ None = first_below-suc p n ∙ ap (λ o. option_or o (cond (p n) (Some n) None)) is ∙ ap (λ b. cond b (Some n) None) not_so in
        (rw still tt, λ none i less. elim (cases_lt i n) [ inl before ↦ was.1 is i before | inr last ↦ let at : i ≡ n = omega arith in ap p at ∙ not_so ])
  ]

pub first_found : (p : ℕ → Bool) (n f : ℕ) → first_below p n ≡ Some f → IsFirst p n f
first_found p n f is = subst (λ o. IfSome o (IsFirst p n)) is (first_is p n).0

-- where one passes there is a first
pub some_first : (p : ℕ → Bool) (n q : ℕ) → q < n → p q ≡ true → (f : ℕ) × (first_below p n ≡ Some f)
some_first p n q less so = by (first_below p n) refl where
  by : (o : Option ℕ) → first_below p n ≡ o → (f : ℕ) × (first_below p n ≡ Some f)
  by None none = absurd (false≢true (sym ((first_is p n).1 none q less) ∙ so))
  by (Some f) is = (f, is)

-- it stays the first
pub first_stays : (p : ℕ → Bool) (n f m : ℕ) → first_below p n ≡ Some f → n ≤ m → first_below p m ≡ Some f
first_stays p n f m is more =
    let first = first_found p n f is in
    let there = some_first p m f (omega (arith, first.less)) first.passes in
    let other = first_found p m there.0 there.1 in
    elim (cases_order there.0 f) [
      | inl same ↦ there.1 ∙ ap Some same
      | inr (inl less) ↦ absurd (false≢true (sym (first.before there.0 less) ∙ other.passes))
      | inr (inr later) ↦ absurd (false≢true (sym (other.before f later) ∙ first.passes))
    ]

-- and there is none where none passes
pub first_none : (p : ℕ → Bool) (n : ℕ) → ((i : ℕ) → i < n → p i ≡ false) → first_below p n ≡ None
first_none p n none = by (first_below p n) refl where
  by : (o : Option ℕ) → first_below p n ≡ o → first_below p n ≡ None
  by None is = is
  by (Some f) is = let first = first_found p n f is in absurd (false≢true (sym (none f first.less) ∙ first.passes))

-- numbers that don't pass change nothing
pub first_skips : (p : ℕ → Bool) (n m : ℕ) → n ≤ m → ((i : ℕ) → n ≤ i → i < m → p i ≡ false) → first_below p m ≡ first_below p n
first_skips p n m more none = by (first_below p n) refl where
  by : (o : Option ℕ) → first_below p n ≡ o → first_below p m ≡ first_below p n
  by (Some f) is = first_stays p n f m is more ∙ sym is
  by None is = first_none p m (λ i less. elim (cases_lt i n) [ inl before ↦ (first_is p n).1 is i before | inr behind ↦ none i behind less ]) ∙ sym is

-- ---- the numbers

module _ (params : List Parameter) where
  openers-suc : (n : ℕ) → openers params (suc n) ≡ cond (opens params n) (suc (openers params n)) (openers params n)
  unfolding openers
  openers-suc n = refl

  pub openers-opens : (n : ℕ) → opens params n ≡ true → openers params (suc n) ≡ suc (openers params n)
  openers-opens n on = openers-suc n ∙ ap (λ b. cond b (suc (openers params n)) (openers params n)) on

  pub openers-other : (n : ℕ) → opens params n ≡ false → openers params (suc n) ≡ openers params n
  openers-other n off = openers-suc n ∙ ap (λ b. cond b (suc (openers params n)) (openers params n)) off

  openers-step : (n : ℕ) → (openers params n ≤ openers params (suc n)) × (openers params (suc n) ≤ suc (openers params n))
  openers-step n = elim (cases_Bool (opens params n)) [
    | inl on ↦ (omega (arith, openers-opens n on), omega (arith, openers-opens n on))
    | inr off ↦ (omega (arith, openers-other n off), omega (arith, openers-other n off))
  ]

  pub openers-few : (n : ℕ) → openers params n ≤ n
  unfolding openers
  openers-few zero = omega arith
  openers-few (suc n) = omega (arith, openers-few n, (openers-step n).1)

  openers-grow : (n d : ℕ) → openers params n ≤ openers params (n + d)
  openers-grow n zero = let same : n + 0 ≡ n = omega arith in omega (arith, ap (openers params) same)
  openers-grow n (suc d) = let same : n + suc d ≡ suc (n + d) = omega arith in omega (arith, ap (openers params) same, openers-grow n d, (openers-step (n + d)).0)

  -- a place that opens a mailbox counts from then on
  pub openers-less : (f n : ℕ) → opens params f ≡ true → f < n → openers params f < openers params n
  openers-less f n on less =
      let same : suc f + (n - suc f) ≡ n = omega arith in
      omega (arith, openers-opens f on, openers-grow (suc f) (n - suc f), ap (openers params) same)

  -- places that open mailboxes of one number are one
  one_opener : (f g : ℕ) → opens params f ≡ true → opens params g ≡ true → openers params f ≡ openers params g → f ≡ g
  one_opener f g on also same = elim (cases_order f g) [
    | inl is ↦ is
    | inr (inl less) ↦ absurd (omega (arith, openers-less f g on less))
    | inr (inr more) ↦ absurd (omega (arith, openers-less g f also more))
  ]

  -- a source is of one bus, label and SDI
  pub record IsOf (bus label slot : ℕ) (s : Source) : Type 0 where
    pub bus_is : bus ≡ s.bus
    pub label_is : label ≡ s.label
    pub slot_is : slot ≡ slot_of s.sdi

  pub is_of-parts : (bus label slot : ℕ) (s : Source) → is_of bus label slot s ≡ true → IsOf bus label slot s
  is_of-parts bus label slot s so =
      let one = and_parts (bus == s.bus && label == s.label) (slot == slot_of s.sdi) so in
      let two = and_parts (bus == s.bus) (label == s.label) one.0 in
      record { bus_is = eqb-true bus s.bus two.0; label_is = eqb-true label s.label two.1; slot_is = eqb-true slot (slot_of s.sdi) one.1 }

  pub is_of-own : (s : Source) → is_of s.bus s.label (slot_of s.sdi) s ≡ true
  is_of-own s = rw (eq-eqb s.bus s.bus refl, eq-eqb s.label s.label refl, eq-eqb (slot_of s.sdi) (slot_of s.sdi) refl) refl

  pub passes-own : (q : ℕ) (s : Source) → source_at params q ≡ Some s → passes (is_of s.bus s.label (slot_of s.sdi)) params q ≡ true
  passes-own q s there = ap (λ o. option_map_or (is_of s.bus s.label (slot_of s.sdi)) o false) there ∙ is_of-own s

  -- the first place of a mailbox opens it, and is of its bus, label and SDI
  first_opens : (bus label slot n f : ℕ) → first_of params bus label slot n ≡ Some f → (opens params f ≡ true) × ((s : Source) × (source_at params f ≡ Some s) × IsOf bus label slot s)
  first_opens bus label slot n f is =
      let first = first_found (passes (is_of bus label slot) params) n f is in
      let there = source_there (is_of bus label slot) (source_at params f) first.passes in
      let s = there.0 in
      let own = is_of-parts bus label slot s there.2 in
      let none : first_of params s.bus s.label (slot_of s.sdi) f ≡ None =
      ap (λ b. first_of params b s.label (slot_of s.sdi) f) (sym own.bus_is) ∙ ap (λ l. first_of params bus l (slot_of s.sdi) f) (sym own.label_is)
      ∙ ap (λ t. first_of params bus label t f) (sym own.slot_is)
      ∙ first_none (passes (is_of bus label slot) params) f first.before in (
        ap (λ o. option_map_or (λ (t : Source). is_none (first_of params t.bus t.label (slot_of t.sdi) f)) o false) there.1 ∙ ap is_none none,
        (s, there.1, own),
      )

  pub number_some : (bus label slot n f : ℕ) → first_of params bus label slot n ≡ Some f → number_of params bus label slot n ≡ suc (openers params f)
  number_some bus label slot n f is = ap (λ o. option_map_or (λ g. suc (openers params g)) o 0) is

  -- there are as many mailboxes as places that open one, and one of no source
  pub number-within : (bus label slot n : ℕ) → number_of params bus label slot n ≤ openers params n
  number-within bus label slot n = by (first_of params bus label slot n) refl where
    by : (o : Option ℕ) → first_of params bus label slot n ≡ o → number_of params bus label slot n ≤ openers params n
    by None is = rw is (omega arith)
    by (Some f) is = omega (arith, number_some bus label slot n f is, openers-less f n (first_opens bus label slot n f is).0 (first_found (passes (is_of bus label slot) params) n f is).less)

  pub openers-le : (n m : ℕ) → n ≤ m → openers params n ≤ openers params m
  openers-le n m le = let same : n + (m - n) ≡ m = omega arith in omega (arith, openers-grow n (m - n), ap (openers params) same)

  -- a source has a mailbox, and the same one where more places are looked at
  pub number-own : (bus label slot n q : ℕ) → q < n → passes (is_of bus label slot) params q ≡ true → 0 < number_of params bus label slot n
  number-own bus label slot n q less so =
      let there = some_first (passes (is_of bus label slot) params) n q less so in
      omega (arith, number_some bus label slot n there.0 there.1)

  pub number-stays : (bus label slot n m q : ℕ) → q < n → passes (is_of bus label slot) params q ≡ true → n ≤ m → number_of params bus label slot m ≡ number_of params bus label slot n
  number-stays bus label slot n m q less so more =
      let there = some_first (passes (is_of bus label slot) params) n q less so in
      ap (λ o. option_map_or (λ g. suc (openers params g)) o 0) (first_stays (passes (is_of bus label slot) params) n there.0 m there.1 more ∙ sym there.1)

  -- those of one mailbox are of one bus, label and SDI
  pub one_number : (bus label slot n bus' label' slot' m : ℕ) → number_of params bus label slot n ≡ number_of params bus' label' slot' m → 0 < number_of params bus label slot n
      → (bus ≡ bus') × (label ≡ label') × (slot ≡ slot')
  one_number bus label slot n bus' label' slot' m same some = by (first_of params bus label slot n) refl (first_of params bus' label' slot' m) refl where
    by : (o : Option ℕ) → first_of params bus label slot n ≡ o → (o' : Option ℕ) → first_of params bus' label' slot' m ≡ o' → (bus ≡ bus') × (label ≡ label') × (slot ≡ slot')
    by None is o' is' = absurd (let none : number_of params bus label slot n ≡ 0 = ap (λ o. option_map_or (λ g. suc (openers params g)) o 0) is in let w : ⊥ = omega arith in w)
    by (Some f) is None is' = absurd (let none : number_of params bus' label' slot' m ≡ 0 = ap (λ o. option_map_or (λ g. suc (openers params g)) o 0) is' in let w : ⊥ = omega arith in w)
    by (Some f) is (Some g) is' =
        let one = first_opens bus label slot n f is in
        let two = first_opens bus' label' slot' m g is' in
        let at : f ≡ g = one_opener f g one.0 two.0 (omega (arith, same, number_some bus label slot n f is, number_some bus' label' slot' m g is')) in
        let source : one.1.0 ≡ two.1.0 = same_Some one.1.0 two.1.0 (sym one.1.1 ∙ ap (source_at params) at ∙ two.1.1) in
        let a = one.1.2 in
        let b = two.1.2 in (
          a.bus_is ∙ ap (λ (s : Source). s.bus) source ∙ sym b.bus_is,
          a.label_is ∙ ap (λ (s : Source). s.label) source ∙ sym b.label_is,
          a.slot_is ∙ ap (λ (s : Source). slot_of s.sdi) source ∙ sym b.slot_is,
        )
