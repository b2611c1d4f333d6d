-- The listeners of a mailbox are found along the chain of its bus and label.
use Rattle.std.proofs.Common.{◌≡◌, ◌⊎◌, ℕ, zero, suc, ◌*◌, ◌<◌, ◌≤◌, ◌==◌, ◌&&◌, ◌++◌, Bool, true, false, List, [], ◌∷◌, length, get_or, Option, Some, None, All, refl, sym, ap, ◌∙◌, subst, arith, inl, inr}
use Rattle.std.specs.Prelude.{IfSome}
use Rattle.std.specs.Option.{option_map_or}
use Rattle.std.specs.List.{list_any}
use Rattle.std.proofs.lemmas.Bool.{cases_lt, cases_order, and_parts, and_from, or_left, or_right, eqb-true, eq-eqb, false≢true}
use Rattle.std.proofs.lemmas.Bool.Decides.{nat_tests}
use Rattle.std.proofs.lemmas.Option.{same_Some, none-some}
use Rattle.std.proofs.lemmas.List.{get_or_past}
use Rattle.std.proofs.lemmas.List.Folds.{list_any-append}
use Rattle.std.proofs.lemmas.List.Elements.{All-append, All-nil}
use Rattle.ecam_spec.specs.Book.{Source, Parameter}
use Rattle.book_model.specs.SourcePlaces.{source_at, listens, last_below}
use Rattle.param_table.specs.declared.mailbox.Listener.{Listener}
use Rattle.param_table.specs.declared.rules.Rule.{Rule}
use Rattle.param_table.specs.declared.rules.Numbered.{Numbered}
use Rattle.param_table.specs.HeldValues.{mailbox_at}
use Rattle.param_table.specs.Rules.{AreNumbered, RuleIs, slot_of, number_of}
use Rattle.param_table.specs.Routes.{IsListener, AreListeners, listener_of}
use Rattle.param_table.proofs.Sources.{source_there}
use Rattle.param_table.proofs.Chains.{is_past, past_fails, found_passes}
use Rattle.param_table.proofs.ByRule.{rule_source}
use Rattle.param_table.proofs.Numbers.{number-own, passes-own, one_number}

-- one of these listeners is of this place
abbrev pub has_place : ℕ → List Listener → Bool
has_place q ls = list_any (λ (l : Listener). l.place == q) ls

module _ (is_asked : ℕ → Bool) (params : List Parameter) where
  -- the place is still to come
  pub record IsAhead (q : ℕ) (next : Option ℕ) : Type 0 where
    pub at : ℕ
    pub is : next ≡ Some at
    pub behind : q ≤ at
    pub source : Source
    pub there : source_at params at ≡ Some source
    pub own : Source
    pub owned : source_at params q ≡ Some own
    pub bus : source.bus ≡ own.bus
    pub label : source.label ≡ own.label

  -- the listeners of the places behind the next one are found
  pub record Looks (rules : List (Option Rule)) (mailbox : ℕ) (next : Option ℕ) (ls : List Listener) : Type 0 where
    pub there : IfSome next (λ h. (h < 3 * length params) × ((s : Source) × (source_at params h ≡ Some s)))
    pub each : All (IsListener is_asked rules mailbox) ls
    pub all : (q : ℕ) (r : Rule) → get_or rules q None ≡ Some r → r.mailbox ≡ mailbox → is_asked q ≡ true → (has_place q ls ≡ true) ⊎ IsAhead q next

  pub found_all : (rules : List (Option Rule)) (mailbox : ℕ) (next : Option ℕ) (ls : List Listener) → Looks rules mailbox next ls → next ≡ None → AreListeners is_asked rules mailbox ls
  found_all rules mailbox next ls looks end = record { each = looks.each; all = λ q r is own asked. by q r (looks.all q r is own asked) } where
    by : (q : ℕ) (r : Rule) → (has_place q ls ≡ true) ⊎ IsAhead q next → has_place q ls ≡ true
    by q r (inl found) = found
    by q r (inr ahead) = absurd (none-some ahead.at (sym end ∙ ahead.is))

  -- ---- at the last place

  module _ (numbered : Numbered) (are : AreNumbered params (3 * length params) numbered) where
    abbrev rules : List (Option Rule)
    rules = numbered.rules.items

    within : (q : ℕ) (r : Rule) → get_or rules q None ≡ Some r → q < 3 * length params
    within q r is = elim (cases_lt q (3 * length params)) [
      | inl less ↦ less
      | inr past ↦ absurd (none-some r (sym (get_or_past rules q None (omega (arith, past, are.rules.count))) ∙ is))
    ]

    pub its_rule : (q : ℕ) (r : Rule) → get_or rules q None ≡ Some r → RuleIs params q r
    its_rule q r is = rule_source params q r (get_or rules q None) (are.rules.each q (within q r is)) is

    its_number : (q : ℕ) (r : Rule) (s : Source) → get_or rules q None ≡ Some r → source_at params q ≡ Some s → r.mailbox ≡ number_of params s.bus s.label (slot_of s.sdi) (3 * length params)
    its_number q r s is there = sym (ap (λ o. option_map_or (λ (t : Rule). t.mailbox) o 0) is) ∙ are.rules.mailbox q s (within q r is) there

    -- those of one mailbox listen to one bus and label
    pub one_chain : (q l : ℕ) (r t : Rule) (s u : Source) → get_or rules q None ≡ Some r → get_or rules l None ≡ Some t → source_at params q ≡ Some s → source_at params l ≡ Some u
        → r.mailbox ≡ t.mailbox → (u.bus ≡ s.bus) × (u.label ≡ s.label)
    one_chain q l r t s u is also there there' same =
        let n = 3 * length params in
        let one = one_number params u.bus u.label (slot_of u.sdi) n s.bus s.label (slot_of s.sdi) n (sym (its_number l t u also there') ∙ sym same ∙ its_number q r s is there)
        (number-own params u.bus u.label (slot_of u.sdi) n l (within l t also) (passes-own params l u there')) in
        (one.0, one.1)

    -- the rule of a mailbox's last place
    pub last_rule : (m l : ℕ) → get_or numbered.latest.items m None ≡ Some l → (r : Rule) × (get_or rules l None ≡ Some r) × (r.mailbox ≡ m)
    last_rule m l is = by (get_or rules l None) refl where
      there : (l < 3 * length params) × (mailbox_at rules l ≡ m)
      there = are.latest.there m l is

      by : (o : Option Rule) → get_or rules l None ≡ o → (r : Rule) × (get_or rules l None ≡ Some r) × (r.mailbox ≡ m)
      by (Some r) rule = (r, rule, sym (ap (λ o. option_map_or (λ (t : Rule). t.mailbox) o 0) rule) ∙ there.1)
      by None none =
          let zero_is : 0 ≡ m = sym (ap (λ o. option_map_or (λ (t : Rule). t.mailbox) o 0) none) ∙ there.1 in
          absurd (none-some l (sym are.latest.none ∙ ap (λ i. get_or numbered.latest.items i None) zero_is ∙ is))

    pub look_start : (mailbox : ℕ) (next : Option ℕ) → next ≡ get_or numbered.latest.items mailbox None → Looks rules mailbox next []
    look_start mailbox next is = record { there = first next is; each = All-nil (IsListener is_asked rules mailbox); all = λ q r rule own asked. inr (ahead q r rule own) } where
      first : (o : Option ℕ) → o ≡ get_or numbered.latest.items mailbox None → IfSome o (λ h. (h < 3 * length params) × ((s : Source) × (source_at params h ≡ Some s)))
      first None is = tt
      first (Some l) is =
          let rule = last_rule mailbox l (sym is) in
          let its = its_rule l rule.0 rule.1 in
          (within l rule.0 rule.1, (its.source, its.there))

      ahead : (q : ℕ) (r : Rule) → get_or rules q None ≡ Some r → r.mailbox ≡ mailbox → IsAhead q next
      ahead q r rule own =
          let last = are.latest.last q r (within q r rule) rule in
          let latest : get_or numbered.latest.items mailbox None ≡ Some last.0 = ap (λ i. get_or numbered.latest.items i None) (sym own) ∙ last.1 in
          let other = last_rule mailbox last.0 latest in
          let its = its_rule q r rule in
          let others = its_rule last.0 other.0 other.1 in
          let chain = one_chain q last.0 r other.0 its.source others.source rule other.1 its.there others.there (own ∙ sym other.2) in
          record { at = last.0; is = is ∙ latest; behind = last.2; source = others.source; there = others.there; own = its.source; owned = its.there; bus = chain.0; label = chain.1 }

    -- ---- one place before

    pub look_next : (mailbox h : ℕ) (s : Source) (next : Option ℕ) (ls after : List Listener) → Looks rules mailbox (Some h) ls → source_at params h ≡ Some s → next ≡ last_below (listens params s.bus s.label) h
        → All (IsListener is_asked rules mailbox) after → ((q : ℕ) → has_place q ls ≡ true → has_place q after ≡ true)
        → ((r : Rule) → get_or rules h None ≡ Some r → r.mailbox ≡ mailbox → is_asked h ≡ true → has_place h after ≡ true)
        → Looks rules mailbox next after
    look_next mailbox h s next ls after looks there is each kept here = record { there = first next (subst (λ o. IfSome o (λ i. (i < h) × (p i ≡ true))) (sym is) (found_passes p h)); each = each; all = all } where
      p : ℕ → Bool
      p = listens params s.bus s.label

      less : h < 3 * length params
      less = looks.there.0

      first : (o : Option ℕ) → IfSome o (λ i. (i < h) × (p i ≡ true)) → IfSome o (λ i. (i < 3 * length params) × ((s : Source) × (source_at params i ≡ Some s)))
      first None found = tt
      first (Some i) found = let at = source_there (λ t. s.bus == t.bus && s.label == t.label) (source_at params i) found.1 in (omega (arith, found.0, less), (at.0, at.1))

      later : (i q : ℕ) → i < q → is_past (Some i) q ≡ true
      later i q more = grind (arith, nat_tests)

      -- a place before in the chain is the next or before it
      go : (q : ℕ) (own : Source) (o : Option ℕ) → next ≡ o → IfSome o (λ i. (i < h) × (p i ≡ true)) → q < h → p q ≡ true → source_at params q ≡ Some own → s.bus ≡ own.bus → s.label ≡ own.label → IsAhead q next
      go q own None none found before so owned bus label = absurd (false≢true (sym (past_fails p h q before (ap (λ o. is_past o q) (sym is ∙ none))) ∙ so))
      go q own (Some i) at found before so owned bus label = elim (cases_lt i q) [
        | inl past ↦ absurd (false≢true (sym (past_fails p h q before (ap (λ o. is_past o q) (sym is ∙ at) ∙ later i q past)) ∙ so))
        | inr behind ↦
            let t = source_there (λ t. s.bus == t.bus && s.label == t.label) (source_at params i) found.1 in
            let parts = and_parts (s.bus == t.0.bus) (s.label == t.0.label) t.2 in
            record { at = i; is = at; behind = behind; source = t.0; there = t.1; own = own; owned = owned; bus = sym (eqb-true s.bus t.0.bus parts.0) ∙ bus; label = sym (eqb-true s.label t.0.label parts.1) ∙ label }
      ]

      all : (q : ℕ) (r : Rule) → get_or rules q None ≡ Some r → r.mailbox ≡ mailbox → is_asked q ≡ true → (has_place q after ≡ true) ⊎ IsAhead q next
      all q r rule own asked = by (looks.all q r rule own asked) where
        ahead : (a : IsAhead q (Some h)) → (has_place q after ≡ true) ⊎ IsAhead q next
        ahead a =
            let same : h ≡ a.at = same_Some h a.at a.is in
            let source : s ≡ a.source = same_Some s a.source (sym there ∙ ap (source_at params) same ∙ a.there) in
            let bus : s.bus ≡ a.own.bus = ap (λ (t : Source). t.bus) source ∙ a.bus in
            let label : s.label ≡ a.own.label = ap (λ (t : Source). t.label) source ∙ a.label in
            elim (cases_order q h) [
              | inl at ↦ inl (subst (λ i. has_place i after ≡ true) (sym at) (here r (ap (λ i. get_or rules i None) (sym at) ∙ rule) own (ap is_asked (sym at) ∙ asked)))
              | inr (inl before) ↦
                  let so : p q ≡ true = ap (λ o. option_map_or (λ (t : Source). s.bus == t.bus && s.label == t.label) o false) a.owned
                  ∙ and_from (s.bus == a.own.bus) (s.label == a.own.label) (eq-eqb s.bus a.own.bus bus) (eq-eqb s.label a.own.label label) in
                  inr (go q a.own next refl (subst (λ o. IfSome o (λ i. (i < h) × (p i ≡ true))) (sym is) (found_passes p h)) before so a.owned bus label)
              | inr (inr more) ↦ absurd (omega (arith, a.behind, same, more))
            ]

        by : (has_place q ls ≡ true) ⊎ IsAhead q (Some h) → (has_place q after ≡ true) ⊎ IsAhead q next
        by (inl found) = inl (kept q found)
        by (inr a) = ahead a

    -- its source listens to the mailbox
    pub look_found : (mailbox h : ℕ) (s : Source) (next : Option ℕ) (ls : List Listener) (r : Rule) → Looks rules mailbox (Some h) ls → source_at params h ≡ Some s → next ≡ last_below (listens params s.bus s.label) h
        → get_or rules h None ≡ Some r → r.mailbox ≡ mailbox → is_asked h ≡ true → Looks rules mailbox next (ls ++ listener_of h r ∷ [])
    look_found mailbox h s next ls r looks there is rule own asked = look_next mailbox h s next ls (ls ++ listener_of h r ∷ []) looks there is
        (All-append (IsListener is_asked rules mailbox) ls (listener_of h r ∷ []) looks.each one)
        (λ q found. list_any-append (λ (l : Listener). l.place == q) ls (listener_of h r ∷ []) ∙ or_left (has_place q ls) (has_place q (listener_of h r ∷ [])) found)
        (λ t other mine on. list_any-append (λ (l : Listener). l.place == h) ls (listener_of h r ∷ []) ∙ or_right (has_place h ls) (has_place h (listener_of h r ∷ [])) (or_left (h == h) false (eq-eqb h h refl)))
      where
        one : All (IsListener is_asked rules mailbox) (listener_of h r ∷ [])
        one zero d less = record { rule = r; there = rule; own = own; is = refl; asked = asked }
        one (suc i) d less = absurd (omega (arith, less))

    -- it doesn't, or isn't is_asked
    pub look_other : (mailbox h : ℕ) (s : Source) (next : Option ℕ) (ls : List Listener) → Looks rules mailbox (Some h) ls → source_at params h ≡ Some s → next ≡ last_below (listens params s.bus s.label) h
        → ((r : Rule) → get_or rules h None ≡ Some r → r.mailbox ≡ mailbox → is_asked h ≡ true → ⊥) → Looks rules mailbox next ls
    look_other mailbox h s next ls looks there is not = look_next mailbox h s next ls ls looks there is looks.each (λ q found. found) (λ r rule own asked. absurd (not r rule own asked))

-- within a list any default gives the same
pub any_default : {X : Type 0} → (xs : List X) (i : ℕ) (d e : X) → i < length xs → get_or xs i d ≡ get_or xs i e
any_default [] i d e less = absurd (omega (arith, less))
any_default (x ∷ xs) zero d e less = refl
any_default (x ∷ xs) (suc i) d e less = any_default xs i d e (omega (arith, less))

-- the next place is before
pub before_less : (p : ℕ → Bool) (h : ℕ) (next was : Option ℕ) → next ≡ last_below p h → was ≡ Some h → option_map_or (λ i. suc i) next 0 < option_map_or (λ i. suc i) was 0
before_less p h next was is now = by next was now (subst (λ o. IfSome o (λ i. (i < h) × (p i ≡ true))) (sym is) (found_passes p h)) where
  by : (o was : Option ℕ) → was ≡ Some h → IfSome o (λ i. (i < h) × (p i ≡ true)) → option_map_or (λ i. suc i) o 0 < option_map_or (λ i. suc i) was 0
  by None None now found = absurd (none-some h now)
  by None (Some j) now found = omega arith
  by (Some i) None now found = absurd (none-some h now)
  by (Some i) (Some j) now found = let same : j ≡ h = same_Some j h now in omega (arith, same, found.0)
