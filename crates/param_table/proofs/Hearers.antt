-- The listeners of a mailbox, and the places that they are of.
use Rattle.std.proofs.Common.{◌≡◌, ◌≢◌, ℕ, ◌*◌, ◌<◌, ◌≤◌, Bool, true, false, ◌==◌, length, get_or, List, Option, Some, None, All, refl, sym, ap, ◌∙◌, subst, arith, inl, inr}
use Rattle.std.specs.List.{list_any}
use Rattle.std.proofs.lemmas.Bool.{cases_eq, eqb-true}
use Rattle.std.proofs.lemmas.Option.{same_Some}
use Rattle.ecam_spec.specs.Book.{Book}
use Rattle.book_model.proofs.SourcePlaces.{place_within}
use Rattle.param_table.specs.declared.mailbox.Listener.{Listener}
use Rattle.param_table.specs.declared.mailbox.Mailbox.{Mailbox}
use Rattle.param_table.specs.declared.routing.Routing.{Routing}
use Rattle.param_table.specs.declared.rules.Rule.{Rule}
use Rattle.param_table.specs.Asked.{is_asked_at}
use Rattle.param_table.specs.Rules.{IsRule}
use Rattle.param_table.specs.Routes.{listener_of, IsListener, Tells, AreRouted}
use Rattle.param_table.specs.HeldValues.{unused, held_for, received_at, hearers_of}
use Rattle.param_table.specs.HeldState.{AreListed}
use Rattle.param_table.proofs.Listeners.{found, any_false}
use Rattle.param_table.proofs.ByRule.{rule-is, rule_source, by_rule}

module _ (b : Book) (routing : Routing) (boxes : List Mailbox) (m : ℕ) (routed : AreRouted b routing boxes) (within : m < length boxes) where
  abbrev rules : List (Option Rule)
  rules = routing.rules.items.items

  abbrev box : Mailbox
  box = get_or boxes m unused

  abbrev hearers : List Listener
  hearers = hearers_of routing.listeners.items.items box

  pub tells : Tells (is_asked_at b) rules routing.listeners.items.items m box
  tells = routed.tells m within

  pub rule_at : (q : ℕ) → IsRule b.parameters q (get_or rules q None)
  rule_at = rule-is b.parameters (3 * length b.parameters) rules routed.rules (omega arith)

  -- a listener's place has a source
  place_few : (q : ℕ) (r : Rule) → get_or rules q None ≡ Some r → q < 3 * length b.parameters
  place_few q r is = let rule = rule_source b.parameters q r (get_or rules q None) (rule_at q) is in place_within b.parameters q rule.source rule.there

  pub are_listed : (many : ℕ) → length b.parameters ≤ many → AreListed routing.listeners.items.items many box
  are_listed many room = record {
    order = tells.order;
    within = tells.within;
    params = λ k d less.
        let l = tells.are.each k d less in
        omega (arith, place_few _ l.rule l.there, room, ap (λ (x : Listener). x.param) l.is);
    soonest = tells.soonest;
  }

  -- what is so of each listener is so of that which a source of the mailbox is, and it doesn't pass where none does
  pub listener : (P : Listener → Type 0) → All P hearers → (f : Listener → Bool) → list_any f hearers ≡ false
      → (q : ℕ) (r : Rule) → get_or rules q None ≡ Some r → r.mailbox ≡ m → is_asked_at b q ≡ true → P (listener_of q r) × (f (listener_of q r) ≡ false)
  listener P all f none q r is own asked =
      let Is : Listener → Type 0 = λ l. IsListener (is_asked_at b) rules m l × P l in
      let l = found Is (λ (x : Listener). x.place == q) f hearers (tells.are.all q r is own asked) (λ k d less. (tells.are.each k d less, all k d less)) none in
      let at : l.0.place ≡ q = eqb-true l.0.place q l.1 in
      let its = l.2.0 in
      let rule : its.rule ≡ r = same_Some its.rule r (sym its.there ∙ ap (λ i. get_or rules i None) at ∙ is) in
      let same : l.0 ≡ listener_of q r = its.is ∙ ap (λ i. listener_of i its.rule) at ∙ ap (listener_of q) rule in
      (subst P same l.2.1, ap f (sym same) ∙ l.3)

  pub each_asked : (P : Listener → Type 0) → All P hearers → (q : ℕ) (r : Rule) → get_or rules q None ≡ Some r → r.mailbox ≡ m → is_asked_at b q ≡ true → P (listener_of q r)
  each_asked P all q r is own asked = (listener P all (λ l. false) (any_false hearers) q r is own asked).0

  -- what its source holds
  pub held_here : (q : ℕ) (r : Rule) → get_or rules q None ≡ Some r → r.mailbox ≡ m → received_at rules boxes q ≡ held_for box r.stale
  held_here q r is own = by_rule rules boxes q r is ∙ ap (λ i. held_for (get_or boxes i unused) r.stale) own

  -- by the rule that stands at a place, and whether it is of this mailbox
  pub by_place : (Q : Type 0) (q : ℕ) → (get_or rules q None ≡ None → Q) → ((r : Rule) → get_or rules q None ≡ Some r → r.mailbox ≡ m → Q)
      → ((r : Rule) → get_or rules q None ≡ Some r → r.mailbox ≢ m → Q) → Q
  by_place Q q none own other = by (get_or rules q None) refl where
    by : (o : Option Rule) → get_or rules q None ≡ o → Q
    by None is = none is
    by (Some r) is = elim (cases_eq r.mailbox m) [
      | inl e ↦ own r is e
      | inr ne ↦ other r is ne
    ]
