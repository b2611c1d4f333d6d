-- A word comes to the mailboxes of the sources that take it, of which there are two at most.
use Rattle.std.proofs.Common.{◌≡◌, ◌≢◌, ◌⊎◌, ℕ, suc, ◌+◌, ◌*◌, ◌<◌, ◌≤◌, Bool, true, false, ◌==◌, ◌&&◌, length, get_or, List, Option, Some, None, cond, refl, sym, ap, ◌∙◌, subst, arith, inl, inr}
use Rattle.std.specs.Prelude.{IfSome}
use Rattle.std.specs.Option.{option_map_or}
use Rattle.std.proofs.lemmas.Bool.{cases_Bool, cases_lt, cases_eq, and_parts, eq-eqb, eqb-true, false≢true}
use Rattle.std.proofs.lemmas.Bool.Decides.{nat_tests}
use Rattle.std.proofs.lemmas.List.{get_or_default}
use Rattle.ecam_spec.specs.Book.{Source, Parameter, Book}
use Rattle.ecam_spec.specs.Word.{label, is_odd, sdi}
use Rattle.ecam_spec.specs.Value.{BusWord, takes, has_sdi}
use Rattle.book_model.specs.SourcePlaces.{parameter_with, source_at, listens, last_below}
use Rattle.book_model.proofs.SourcePlaces.{place_within}
use Rattle.param_table.specs.declared.received.Received.{Received}
use Rattle.param_table.specs.declared.mailbox.Mailbox.{Mailbox}
use Rattle.param_table.specs.declared.routing.Routing.{Routing}
use Rattle.param_table.specs.declared.rules.Rule.{Rule}
use Rattle.param_table.specs.Taking.{takes_at}
use Rattle.param_table.specs.Rules.{slot_of, number_of, IsRule}
use Rattle.param_table.specs.Routes.{AreRouted}
use Rattle.param_table.specs.HeldValues.{renewed}
use Rattle.param_table.proofs.Chains.{past_fails, found_passes, is_past}
use Rattle.param_table.proofs.Sources.{source_there, takes_listens, takes_sdi}
use Rattle.param_table.proofs.ByRule.{rule-is, rule_source}
use Rattle.param_table.proofs.Numbers.{number-own, number-stays, one_number, number-within, openers-le, passes-own}

pub sdi-few : (bits : ℕ) → sdi bits < 4
unfolding sdi
sdi-few bits = omega arith

module _ (book : Book) (routing : Routing) (boxes : List Mailbox) (routed : AreRouted book routing boxes) (w : BusWord) (odd : is_odd w.bits ≡ true)
    (l : ℕ) (last : Some l ≡ last_below (listens book.parameters w.bus (label w.bits)) (3 * length book.parameters)) where
  abbrev params : List Parameter
  params = book.parameters

  abbrev rules : List (Option Rule)
  rules = routing.rules.items.items

  -- the mailbox of the sources that name no SDI, and that of those which name the word's
  abbrev any : ℕ
  any = get_or routing.routes.items.items (5 * l + 0) 0

  abbrev named : ℕ
  named = get_or routing.routes.items.items (5 * l + (1 + sdi w.bits)) 0

  abbrev hears : ℕ → Bool
  hears = listens params w.bus (label w.bits)

  here : (l < 3 * length params) × (hears l ≡ true)
  here = subst (λ o. IfSome o (λ h. (h < 3 * length params) × (hears h ≡ true))) (sym last) (found_passes hears (3 * length params))

  -- its source is of the word's bus and label
  at_last : (s : Source) × (source_at params l ≡ Some s) × ((w.bus ≡ s.bus) × (label w.bits ≡ s.label))
  at_last =
      let there = source_there (λ (s : Source). w.bus == s.bus && label w.bits == s.label) (source_at params l) here.1 in
      let parts = and_parts (w.bus == there.0.bus) (label w.bits == there.0.label) there.2 in
      (there.0, there.1, (eqb-true w.bus there.0.bus parts.0, eqb-true (label w.bits) there.0.label parts.1))

  pub route_number : (slot : ℕ) → slot < 5 → get_or routing.routes.items.items (5 * l + slot) 0 ≡ number_of params w.bus (label w.bits) slot (suc l)
  route_number slot few =
      let s = at_last.0 in
      routed.routes.each l s here.0 at_last.1 slot few
      ∙ ap (λ b. number_of params b s.label slot (suc l)) (sym at_last.2.0)
      ∙ ap (λ n. number_of params w.bus n slot (suc l)) (sym at_last.2.1)

  pub route_within : (slot : ℕ) → slot < 5 → get_or routing.routes.items.items (5 * l + slot) 0 < length boxes
  route_within slot few =
      omega (arith, route_number slot few, number-within params w.bus (label w.bits) slot (suc l), openers-le params (suc l) (3 * length params) here.0, routed.count)

  pub routes_there : 5 * l + 5 ≤ length routing.routes.items.items
  routes_there = omega (arith, routed.routes.count, here.0)

  -- the two as they are read
  pub any_read : (slots result : ℕ) → slots ≡ l → result ≡ get_or routing.routes.items.items (5 * slots) result → result ≡ any
  any_read slots result at is =
      let routes = routing.routes.items.items in
      let place : 5 * slots ≡ 5 * l + 0 = omega arith in
      is ∙ ap (λ i. get_or routes i result) place ∙ get_or_default routes (5 * l + 0) result 0 (omega (arith, routes_there))

  pub named_read : (slots number result : ℕ) → slots ≡ l → number ≡ sdi w.bits → result ≡ get_or routing.routes.items.items (5 * slots + 1 + number) result → result ≡ named
  named_read slots number result at own is =
      let routes = routing.routes.items.items in
      let place : 5 * slots + 1 + number ≡ 5 * l + (1 + sdi w.bits) = omega arith in
      is ∙ ap (λ i. get_or routes i result) place ∙ get_or_default routes (5 * l + (1 + sdi w.bits)) result 0 (omega (arith, routes_there, sdi-few w.bits))

  pub any_within : any < length boxes
  any_within = route_within 0 (omega arith)

  pub named_within : named < length boxes
  named_within = route_within (1 + sdi w.bits) (omega (arith, sdi-few w.bits))

  rule_mailbox : (q : ℕ) (r : Rule) → get_or rules q None ≡ Some r → (s : Source) → source_at params q ≡ Some s → r.mailbox ≡ number_of params s.bus s.label (slot_of s.sdi) (3 * length params)
  rule_mailbox q r is s there = sym (ap (λ o. option_map_or (λ (x : Rule). x.mailbox) o 0) is) ∙ routed.rules.mailbox q s (place_within params q s there) there

  -- a source with the mailbox of a slot is of the word's bus and label, and of that slot
  of_slot : (slot : ℕ) → slot < 5 → (q : ℕ) (r : Rule) → get_or rules q None ≡ Some r → r.mailbox ≡ get_or routing.routes.items.items (5 * l + slot) 0
      → (s : Source) × (source_at params q ≡ Some s) × ((w.bus == s.bus && label w.bits == s.label) ≡ true) × (slot ≡ slot_of s.sdi)
  of_slot slot few q r is same =
      let rule = rule_source params q r (get_or rules q None) (rule-is params (3 * length params) rules routed.rules (omega arith) q) is in
      let s = rule.source in
      let within = place_within params q s rule.there in
      let mailbox = rule_mailbox q r is s rule.there in
      let some = number-own params s.bus s.label (slot_of s.sdi) (3 * length params) q within (passes-own params q s rule.there) in
      let one = one_number params s.bus s.label (slot_of s.sdi) (3 * length params) w.bus (label w.bits) slot (suc l) (sym mailbox ∙ same ∙ route_number slot few) some in
      (s, rule.there, rw (eq-eqb w.bus s.bus (sym one.0), eq-eqb (label w.bits) s.label (sym one.1)) refl, sym one.2)

  takes_by : (q : ℕ) (s : Source) → source_at params q ≡ Some s → takes s w ≡ true → takes_at params w q ≡ true
  takes_by q s there so = ap (λ o. option_map_or (λ (t : Source). takes t w) o false) there ∙ so

  no_sdi : (o : Option ℕ) (bits : ℕ) → 0 ≡ slot_of o → has_sdi o bits ≡ true
  no_sdi None bits is = refl
  no_sdi (Some n) bits is = absurd (omega arith)

  own_sdi : (o : Option ℕ) (bits : ℕ) → 1 + sdi bits ≡ slot_of o → has_sdi o bits ≡ true
  own_sdi None bits is = refl
  own_sdi (Some n) bits is = eq-eqb (sdi bits) n (omega arith)

  pub any_takes : (q : ℕ) (r : Rule) → get_or rules q None ≡ Some r → r.mailbox ≡ any → takes_at params w q ≡ true
  any_takes q r is same =
      let of = of_slot 0 (omega arith) q r is same in
      takes_by q of.0 of.1 (takes_sdi w of.0 odd of.2 ∙ no_sdi of.0.sdi w.bits of.3)

  pub named_takes : (q : ℕ) (r : Rule) → get_or rules q None ≡ Some r → r.mailbox ≡ named → takes_at params w q ≡ true
  named_takes q r is same =
      let of = of_slot (1 + sdi w.bits) (omega (arith, sdi-few w.bits)) q r is same in
      takes_by q of.0 of.1 (takes_sdi w of.0 odd of.2 ∙ own_sdi of.0.sdi w.bits of.3)

  -- a source that takes the word has one of the two
  slot_by : (o : Option ℕ) → has_sdi o w.bits ≡ true → (slot_of o ≡ 0) ⊎ (slot_of o ≡ 1 + sdi w.bits)
  slot_by None has = inl refl
  slot_by (Some n) has = inr (let is : sdi w.bits ≡ n = eqb-true (sdi w.bits) n has in omega arith)

  pub taken_by : (q : ℕ) (r : Rule) → get_or rules q None ≡ Some r → takes_at params w q ≡ true → (r.mailbox ≡ any) ⊎ (r.mailbox ≡ named)
  taken_by q r is so =
      let there = source_there (λ (t : Source). takes t w) (source_at params q) so in
      let s = there.0 in
      let heard : hears q ≡ true = elim (cases_Bool (hears q)) [
        | inl on ↦ on
        | inr off ↦ absurd (false≢true (sym (takes_listens params w q off) ∙ so))
      ] in
      let own : (w.bus == s.bus && label w.bits == s.label) ≡ true = sym (ap (λ o. option_map_or (λ (t : Source). w.bus == t.bus && label w.bits == t.label) o false) there.1) ∙ heard in
      let parts = and_parts (w.bus == s.bus) (label w.bits == s.label) own in
      let bus : s.bus ≡ w.bus = sym (eqb-true w.bus s.bus parts.0) in
      let name : s.label ≡ label w.bits = sym (eqb-true (label w.bits) s.label parts.1) in
      let within = place_within params q s there.1 in
      let up_to : q < suc l = elim (cases_lt l q) [
        | inl beyond ↦ absurd (false≢true (sym (past_fails hears (3 * length params) q within (ap (λ o. is_past o q) (sym last) ∙ (grind (arith, nat_tests)))) ∙ heard))
        | inr le ↦ omega arith
      ] in
      let stays = number-stays params s.bus s.label (slot_of s.sdi) (suc l) (3 * length params) q up_to (passes-own params q s there.1) here.0 in
      let mailbox : r.mailbox ≡ number_of params w.bus (label w.bits) (slot_of s.sdi) (suc l) =
      rule_mailbox q r is s there.1 ∙ stays ∙ ap (λ b. number_of params b s.label (slot_of s.sdi) (suc l)) bus ∙ ap (λ n. number_of params w.bus n (slot_of s.sdi) (suc l)) name in
      elim (slot_by s.sdi (sym (takes_sdi w s odd own) ∙ there.2)) [
        | inl none ↦ inl (mailbox ∙ ap (λ t. number_of params w.bus (label w.bits) t (suc l)) none ∙ sym (route_number 0 (omega arith)))
        | inr some ↦ inr (mailbox ∙ ap (λ t. number_of params w.bus (label w.bits) t (suc l)) some ∙ sym (route_number (1 + sdi w.bits) (omega (arith, sdi-few w.bits))))
      ]

  -- what the sources hold once the word came to the one mailbox, and then to the other
  pub received_twice : (clock : ℕ) (x y z : ℕ → Received)
      → ((q : ℕ) (r : Rule) → get_or rules q None ≡ Some r → r.mailbox ≢ any → y q ≡ x q)
      → ((q : ℕ) (r : Rule) → get_or rules q None ≡ Some r → r.mailbox ≡ any → y q ≡ renewed clock r.stale w.bits)
      → ((q : ℕ) → get_or rules q None ≡ None → y q ≡ x q)
      → ((q : ℕ) (r : Rule) → get_or rules q None ≡ Some r → r.mailbox ≢ named → z q ≡ y q)
      → ((q : ℕ) (r : Rule) → get_or rules q None ≡ Some r → r.mailbox ≡ named → z q ≡ renewed clock r.stale w.bits)
      → ((q : ℕ) → get_or rules q None ≡ None → z q ≡ y q)
      → (q : ℕ) → z q ≡ cond (takes_at params w q) (renewed clock (parameter_with params q).stale w.bits) (x q)
  received_twice clock x y z other own none other' own' none' q = by (get_or rules q None) refl where
    stale_is : (r : Rule) → get_or rules q None ≡ Some r → r.stale ≡ (parameter_with params q).stale
    stale_is r is = (rule_source params q r (get_or rules q None) (rule-is params (3 * length params) rules routed.rules (omega arith) q) is).stale

    taken : (r : Rule) → get_or rules q None ≡ Some r → takes_at params w q ≡ true → z q ≡ renewed clock r.stale w.bits → z q ≡ cond (takes_at params w q) (renewed clock (parameter_with params q).stale w.bits) (x q)
    taken r is so has = has ∙ ap (λ n. renewed clock n w.bits) (stale_is r is) ∙ sym (ap (λ b. cond b (renewed clock (parameter_with params q).stale w.bits) (x q)) so)

    left : takes_at params w q ≡ false → z q ≡ x q → z q ≡ cond (takes_at params w q) (renewed clock (parameter_with params q).stale w.bits) (x q)
    left not_so same = same ∙ sym (ap (λ b. cond b (renewed clock (parameter_with params q).stale w.bits) (x q)) not_so)

    none_takes : get_or rules q None ≡ None → takes_at params w q ≡ false
    none_takes is =
        let rule = rule-is params (3 * length params) rules routed.rules (omega arith) q in
        ap (λ o. option_map_or (λ (t : Source). takes t w) o false) (subst (IsRule params q) is rule)

    takes_not : (r : Rule) → get_or rules q None ≡ Some r → r.mailbox ≢ any → r.mailbox ≢ named → takes_at params w q ≡ false
    takes_not r is not_one not_two = elim (cases_Bool (takes_at params w q)) [
      | inl so ↦ elim (taken_by q r is so) [
        | inl one ↦ absurd (not_one one)
        | inr two ↦ absurd (not_two two)
      ]
      | inr not_so ↦ not_so
    ]

    by : (o : Option Rule) → get_or rules q None ≡ o → z q ≡ cond (takes_at params w q) (renewed clock (parameter_with params q).stale w.bits) (x q)
    by None is = left (none_takes is) (none' q is ∙ none q is)
    by (Some r) is = elim (cases_eq r.mailbox named) [
      | inl two ↦ taken r is (named_takes q r is two) (own' q r is two)
      | inr not_two ↦ elim (cases_eq r.mailbox any) [
        | inl one ↦ taken r is (any_takes q r is one) (other' q r is not_two ∙ own q r is one)
        | inr not_one ↦ left (takes_not r is not_one not_two) (other' q r is not_two ∙ other q r is not_one)
      ]
    ]
