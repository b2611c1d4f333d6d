-- One more place gets its mailbox, its route and its rule.
use Rattle.std.proofs.Common.{◌≡◌, ◌⊎◌, ℕ, suc, ◌+◌, ◌*◌, ◌<◌, ◌≤◌, ◌==◌, ◌&&◌, ◌++◌, Bool, true, false, cond, List, [], ◌∷◌, length, get_or, Option, Some, None, refl, sym, ap, ◌∙◌, subst, arith, inl, inr}
use Rattle.std.specs.Prelude.{IfSome, is_none}
use Rattle.std.specs.Option.{option_map_or, option_or}
use Rattle.std.proofs.lemmas.Bool.{cases_Bool, cases_lt, and_parts, eqb-true, eq-eqb, false≢true, and_right}
use Rattle.std.proofs.lemmas.Bool.Decides.{nat_tests}
use Rattle.std.proofs.lemmas.Option.{same_Some, none-some}
use Rattle.std.proofs.lemmas.List.{length-append, get_or_append_left, get_or-append-add, get_or_past}
use Rattle.ecam_spec.specs.Book.{Source, Parameter}
use Rattle.book_model.specs.SourcePlaces.{source_at, passes, listens, last_below}
use Rattle.param_table.specs.HeldValues.{mailbox_at}
use Rattle.param_table.specs.declared.rules.Rule.{Rule}
use Rattle.param_table.specs.Rules.{IsRule, AreRules, AreRoutes, AreLatest, slot_of, is_of, first_of, opens, openers, number_of, earlier_in}
use Rattle.param_table.proofs.Sources.{source_there}
use Rattle.param_table.proofs.Chains.{is_past, past_fails, found_passes}
use Rattle.param_table.proofs.Numbers.{first_below-suc, first_stays, first_none, first_skips, openers-opens, openers-other, passes-own, number_some, number-stays}

-- ---- one more at the end

pub get_or-last : {X : Type 0} → (xs : List X) (x d : X) (n : ℕ) → length xs ≡ n → get_or (xs ++ x ∷ []) n d ≡ x
get_or-last xs x d n is = let same : n ≡ length xs + 0 = omega (arith, is) in ap (λ i. get_or (xs ++ x ∷ []) i d) same ∙ get_or-append-add xs (x ∷ []) 0 d

not_zero : (f : ℕ) → (suc f == 0) ≡ false
not_zero f = grind (arith, nat_tests)

pub get_or-before : {X : Type 0} → (xs ys : List X) (d : X) (n q : ℕ) → length xs ≡ n → q < n → get_or (xs ++ ys) q d ≡ get_or xs q d
get_or-before xs ys d n q is less = get_or_append_left xs ys d q (omega (arith, is, less))

-- a default more at the end changes no look
pub get_or-more : {X : Type 0} → (xs : List X) (d : X) (q : ℕ) → get_or (xs ++ d ∷ []) q d ≡ get_or xs q d
get_or-more xs d q = elim (cases_lt q (length xs)) [
  | inl within ↦ get_or_append_left xs (d ∷ []) d q within
  | inr past ↦ by_end (cases_lt (length xs) q) past
] where
  by_end : (length xs < q) ⊎ (q ≤ length xs) → length xs ≤ q → get_or (xs ++ d ∷ []) q d ≡ get_or xs q d
  by_end (inl far) past = get_or_past (xs ++ d ∷ []) q d (omega (arith, far, length-append xs (d ∷ []))) ∙ sym (get_or_past xs q d past)
  by_end (inr at) past = get_or-last xs d d q (omega arith) ∙ sym (get_or_past xs q d past)

module _ (params : List Parameter) where
  -- ---- the rules

  pub more_rules : (n : ℕ) (rules : List (Option Rule)) (x : Option Rule) → AreRules params n rules → IsRule params n x
      → ((s : Source) → source_at params n ≡ Some s → option_map_or (λ (r : Rule). r.mailbox) x 0 ≡ number_of params s.bus s.label (slot_of s.sdi) (suc n))
      → AreRules params (suc n) (rules ++ x ∷ [])
  more_rules n rules x are is own = record {
    count = length-append rules (x ∷ []) ∙ (let more : length rules + 1 ≡ suc n = omega (arith, are.count) in more);
    each = λ q less. elim (cases_lt q n) [
      | inl before ↦ subst (IsRule params q) (sym (get_or-before rules (x ∷ []) None n q are.count before)) (are.each q before)
      | inr last ↦ let at : n ≡ q = omega arith in subst (λ i. IsRule params i (get_or (rules ++ x ∷ []) i None)) at (subst (IsRule params n) (sym (get_or-last rules x None n are.count)) is)
    ];
    mailbox = λ q s less there. elim (cases_lt q n) [
      | inl before ↦ ap (λ o. option_map_or (λ (r : Rule). r.mailbox) o 0) (get_or-before rules (x ∷ []) None n q are.count before) ∙ are.mailbox q s before there
          ∙ sym (number-stays params s.bus s.label (slot_of s.sdi) n (suc n) q before (passes-own params q s there) (omega arith))
      | inr last ↦ let at : q ≡ n = omega arith in
          ap (λ i. mailbox_at (rules ++ x ∷ []) i) at ∙ ap (λ o. option_map_or (λ (r : Rule). r.mailbox) o 0) (get_or-last rules x None n are.count) ∙ own s (ap (source_at params) (sym at) ∙ there)
    ];
  }

  -- ---- the routes

  pub more_routes : (n : ℕ) (routes after : List ℕ) → AreRoutes params n routes → length after ≡ 5 * suc n → ((i : ℕ) → i < 5 * n → get_or after i 0 ≡ get_or routes i 0)
      → ((s : Source) → source_at params n ≡ Some s → (slot : ℕ) → slot < 5 → get_or after (5 * n + slot) 0 ≡ number_of params s.bus s.label slot (suc n))
      → AreRoutes params (suc n) after
  more_routes n routes after are long kept own = record {
    count = long;
    each = λ q s less there slot few. elim (cases_lt q n) [
      | inl before ↦ kept (5 * q + slot) (omega (arith, before, few)) ∙ are.each q s before there slot few
      | inr last ↦ let at : q ≡ n = omega arith in ap (λ i. get_or after (5 * i + slot) 0) at ∙ own s (ap (source_at params) (sym at) ∙ there) slot few ∙ ap (λ i. number_of params s.bus s.label slot (suc i)) (sym at)
    ];
  }

  -- one that is of a mailbox listens to its bus and label
  listens-none : (bus label slot q : ℕ) → listens params bus label q ≡ false → passes (is_of bus label slot) params q ≡ false
  listens-none bus label slot q = by (source_at params q) where
    none : (a b : Bool) → a ≡ false → (a && b) ≡ false
    none true b h = absurd (false≢true (sym h))
    none false b h = refl

    by : (o : Option Source) → option_map_or (λ (s : Source). bus == s.bus && label == s.label) o false ≡ false → option_map_or (is_of bus label slot) o false ≡ false
    by None h = refl
    by (Some s) h = none (bus == s.bus && label == s.label) (slot == slot_of s.sdi) h

  number-skips : (bus label slot n m : ℕ) → n ≤ m → ((i : ℕ) → n ≤ i → i < m → passes (is_of bus label slot) params i ≡ false) → number_of params bus label slot m ≡ number_of params bus label slot n
  number-skips bus label slot n m more none = ap (λ o. option_map_or (λ g. suc (openers params g)) o 0) (first_skips (passes (is_of bus label slot) params) n m more none)

  number-none : (bus label slot n : ℕ) → ((i : ℕ) → i < n → passes (is_of bus label slot) params i ≡ false) → number_of params bus label slot n ≡ 0
  number-none bus label slot n none = ap (λ o. option_map_or (λ g. suc (openers params g)) o 0) (first_none (passes (is_of bus label slot) params) n none)

  -- the route of the place before in the chain has the mailboxes of all before
  pub earlier-is : (n : ℕ) (routes : List ℕ) → AreRoutes params n routes → (bus label slot : ℕ) → slot < 5
      → earlier_in routes (last_below (listens params bus label) n) slot ≡ number_of params bus label slot n
  earlier-is n routes are bus label slot few = by (last_below (listens params bus label) n) refl (found_passes (listens params bus label) n) where
    later : (b i : ℕ) → suc b ≤ i → is_past (Some b) i ≡ true
    later b i behind = grind (arith, nat_tests)

    by : (o : Option ℕ) → last_below (listens params bus label) n ≡ o → IfSome o (λ h. (h < n) × (listens params bus label h ≡ true)) → earlier_in routes o slot ≡ number_of params bus label slot n
    by None is found = sym (number-none bus label slot n (λ i less. listens-none bus label slot i (past_fails (listens params bus label) n i less (ap (λ o. is_past o i) is))))
    by (Some b) is found =
        let there = source_there (λ s. bus == s.bus && label == s.label) (source_at params b) found.1 in
        let t = there.0 in
        let parts = and_parts (bus == t.bus) (label == t.label) there.2 in
        are.each b t found.0 there.1 slot few
        ∙ ap (λ x. number_of params x t.label slot (suc b)) (sym (eqb-true bus t.bus parts.0)) ∙ ap (λ x. number_of params bus x slot (suc b)) (sym (eqb-true label t.label parts.1))
        ∙ sym (number-skips bus label slot (suc b) n (omega (arith, found.0)) (λ i behind less. listens-none bus label slot i (past_fails (listens params bus label) n i less (ap (λ o. is_past o i) is ∙ later b i behind))))

  -- ---- the mailbox

  own_slot : Source → ℕ
  own_slot s = slot_of s.sdi

  -- what the route has at the place's own SDI
  abbrev number_at : ℕ → Source → ℕ
  number_at n s = number_of params s.bus s.label (slot_of s.sdi) n

  abbrev first_at : ℕ → Source → Option ℕ
  first_at n s = first_of params s.bus s.label (slot_of s.sdi) n

  number_no : (n : ℕ) (s : Source) → first_at n s ≡ None → number_at n s ≡ 0
  number_no n s is = ap (λ o. option_map_or (λ g. suc (openers params g)) o 0) is

  first_here : (n : ℕ) (s : Source) → source_at params n ≡ Some s → first_at n s ≡ None → first_at (suc n) s ≡ Some n
  first_here n s there is =
      let p = passes (is_of s.bus s.label (slot_of s.sdi)) params in
      first_below-suc p n ∙ ap (λ o. option_or o (cond (p n) (Some n) None)) is ∙ ap (λ b. cond b (Some n) None) (passes-own params n s there)

  -- the place's source has this mailbox from then on
  pub own_number : (n : ℕ) (s : Source) → source_at params n ≡ Some s
      → cond (number_at n s == 0) (suc (openers params n)) (number_at n s) ≡ number_at (suc n) s
  own_number n s there = by (first_at n s) refl where
    zero_is : (a b m : ℕ) → m ≡ 0 → cond (m == 0) a b ≡ a
    zero_is a b m is = ap (λ x. cond (x == 0) a b) is

    some_is : (a b m f : ℕ) → m ≡ suc f → cond (m == 0) a b ≡ b
    some_is a b m f is = ap (λ x. cond (x == 0) a b) is ∙ ap (λ x. cond x a b) (not_zero f)

    by : (o : Option ℕ) → first_at n s ≡ o → cond (number_at n s == 0) (suc (openers params n)) (number_at n s) ≡ number_at (suc n) s
    by None is = zero_is (suc (openers params n)) (number_at n s) (number_at n s) (number_no n s is) ∙ sym (number_some params s.bus s.label (slot_of s.sdi) (suc n) n (first_here n s there is))
    by (Some f) is =
        some_is (suc (openers params n)) (number_at n s) (number_at n s) (openers params f) (number_some params s.bus s.label (slot_of s.sdi) n f is)
        ∙ number_some params s.bus s.label (slot_of s.sdi) n f is
        ∙ sym (number_some params s.bus s.label (slot_of s.sdi) (suc n) f (first_stays (passes (is_of s.bus s.label (slot_of s.sdi)) params) n f (suc n) is (omega arith)))

  pub openers_more : (n : ℕ) (s : Source) → source_at params n ≡ Some s → openers params (suc n) ≡ cond (number_at n s == 0) (suc (openers params n)) (openers params n)
  openers_more n s there = by (first_at n s) refl where
    opens_is : opens params n ≡ is_none (first_at n s)
    opens_is = ap (λ o. option_map_or (λ (t : Source). is_none (first_of params t.bus t.label (slot_of t.sdi) n)) o false) there

    by : (o : Option ℕ) → first_at n s ≡ o → openers params (suc n) ≡ cond (number_at n s == 0) (suc (openers params n)) (openers params n)
    by None is = openers-opens params n (opens_is ∙ ap is_none is) ∙ sym (ap (λ m. cond (m == 0) (suc (openers params n)) (openers params n)) (number_no n s is))
    by (Some f) is = openers-other params n (opens_is ∙ ap is_none is)
        ∙ sym (ap (λ m. cond (m == 0) (suc (openers params n)) (openers params n)) (number_some params s.bus s.label (slot_of s.sdi) n f is) ∙ ap (λ x. cond x (suc (openers params n)) (openers params n)) (not_zero (openers params f)))

  pub openers_none : (n : ℕ) → source_at params n ≡ None → openers params (suc n) ≡ openers params n
  openers_none n none = openers-other params n (ap (λ o. option_map_or (λ (t : Source). is_none (first_of params t.bus t.label (slot_of t.sdi) n)) o false) none)

  -- those of another SDI have the mailbox that they had
  pub other_number : (n slot : ℕ) (s : Source) → source_at params n ≡ Some s → (slot == slot_of s.sdi) ≡ false → number_of params s.bus s.label slot (suc n) ≡ number_of params s.bus s.label slot n
  other_number n slot s there other = number-skips s.bus s.label slot n (suc n) (omega arith) (λ i from below.
      let at : i ≡ n = omega arith in
      ap (passes (is_of s.bus s.label slot) params) at ∙ ap (λ o. option_map_or (is_of s.bus s.label slot) o false) there
      ∙ and_right (s.bus == s.bus && s.label == s.label) (slot == slot_of s.sdi) other)

  -- ---- the last place of each mailbox

  pub more_latest : (n : ℕ) (rules : List (Option Rule)) (latest after : List (Option ℕ)) (r : Rule) → AreLatest params n rules latest → length rules ≡ n → 0 < r.mailbox
      → length after ≡ suc (openers params (suc n)) → ((k : ℕ) → get_or after k None ≡ cond (k == r.mailbox) (Some n) (get_or latest k None))
      → AreLatest params (suc n) (rules ++ Some r ∷ []) after
  more_latest n rules latest after r are many some count each = record {
    count = count;
    none = each 0 ∙ ap (λ b. cond b (Some n) (get_or latest 0 None)) (not_first r.mailbox some) ∙ are.none;
    there = λ m l is. elim (cases_Bool (m == r.mailbox)) [
      | inl own ↦
          let at : n ≡ l = same_Some n l (sym (each m ∙ ap (λ b. cond b (Some n) (get_or latest m None)) own) ∙ is) in
          (omega (arith, at), ap (mailbox_at (rules ++ Some r ∷ [])) (sym at) ∙ ap (λ o. option_map_or (λ (t : Rule). t.mailbox) o 0) (get_or-last rules (Some r) None n many) ∙ sym (eqb-true m r.mailbox own))
      | inr other ↦
          let was : get_or latest m None ≡ Some l = sym (each m ∙ ap (λ b. cond b (Some n) (get_or latest m None)) other) ∙ is in
          let old = are.there m l was in
          (omega (arith, old.0), ap (λ o. option_map_or (λ (t : Rule). t.mailbox) o 0) (get_or-before rules (Some r ∷ []) None n l many old.0) ∙ old.1)
    ];
    last = λ q t less is. elim (cases_Bool (t.mailbox == r.mailbox)) [
      | inl own ↦ (n, each t.mailbox ∙ ap (λ b. cond b (Some n) (get_or latest t.mailbox None)) own, omega (arith, less))
      | inr other ↦ elim (cases_lt q n) [
        | inl before ↦
            let old = are.last q t before (sym (get_or-before rules (Some r ∷ []) None n q many before) ∙ is) in
            (old.0, each t.mailbox ∙ ap (λ b. cond b (Some n) (get_or latest t.mailbox None)) other ∙ old.1, old.2)
        | inr last ↦
            let at : q ≡ n = omega arith in
            let same : r ≡ t = same_Some r t (sym (ap (λ i. get_or (rules ++ Some r ∷ []) i None) at ∙ get_or-last rules (Some r) None n many) ∙ is) in
            absurd (false≢true (sym other ∙ eq-eqb t.mailbox r.mailbox (ap (λ (x : Rule). x.mailbox) (sym same))))
      ]
    ];
  } where
    not_first : (m : ℕ) → 0 < m → (0 == m) ≡ false
    not_first m some = grind (arith, nat_tests)

  pub same_latest : (n : ℕ) (rules : List (Option Rule)) (latest : List (Option ℕ)) → AreLatest params n rules latest → length rules ≡ n → source_at params n ≡ None
      → AreLatest params (suc n) (rules ++ None ∷ []) latest
  same_latest n rules latest are many none = record {
    count = are.count ∙ ap suc (sym (openers_none n none));
    none = are.none;
    there = λ m l is. let old = are.there m l is in (omega (arith, old.0), ap (λ o. option_map_or (λ (t : Rule). t.mailbox) o 0) (get_or-more rules None l) ∙ old.1);
    last = λ q t less is. let was : get_or rules q None ≡ Some t = sym (get_or-more rules None q) ∙ is in are.last q t (within q t (cases_lt q n) less was) was;
  } where
    within : (q : ℕ) (t : Rule) → (q < n) ⊎ (n ≤ q) → q < suc n → get_or rules q None ≡ Some t → q < n
    within q t (inl before) less is = before
    within q t (inr past) less is = absurd (none-some t (sym (get_or_past rules q None (omega (arith, past, many))) ∙ is))
