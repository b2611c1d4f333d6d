-- A mailbox is looked at: which places are due, and which parameters are marked.
use Rattle.std.proofs.Common.{◌≡◌, ◌≢◌, ℕ, ◌/◌, ◌<◌, ◌≤◌, Bool, true, false, ◌==◌, ◌&&◌, ◌||◌, length, get_or, set, slice_index, List, Option, Some, None, refl, sym, ap, ◌∙◌, subst, arith, inl, inr}
use Rattle.std.specs.List.{list_any}
use Rattle.std.proofs.lemmas.Bool.{cases_eq, or_parts, eq-eqb, ne_eqb, false≢true}
use Rattle.std.proofs.lemmas.Bool.Decides.{nat_tests}
use Rattle.std.proofs.lemmas.List.{get_or-set_same, get_or-set_other}
use Rattle.std.proofs.lemmas.List.Folds.{list_any_none}
use Rattle.ecam_spec.specs.Book.{Book}
use Rattle.wakes.specs.Marks.{is_marked}
use Rattle.param_table.specs.declared.received.Received.{Received}
use Rattle.param_table.specs.declared.mailbox.Listener.{Listener}
use Rattle.param_table.specs.declared.mailbox.Mailbox.{Mailbox}
use Rattle.param_table.specs.declared.routing.Routing.{Routing}
use Rattle.param_table.specs.declared.rules.Rule.{Rule}
use Rattle.param_table.specs.Asked.{is_asked_at}
use Rattle.param_table.specs.Routes.{IsListener, AreRouted}
use Rattle.param_table.specs.HeldValues.{nothing, unused, is_ending, held_for, received_at, due_at, hearers_of}
use Rattle.param_table.specs.HeldState.{IsDue, AreDue, IsNextLook}
use Rattle.param_table.proofs.ByRule.{by_none, due_by_rule}
use Rattle.param_table.proofs.Hearers.{tells, listener, each_asked, held_here, by_place}

-- where no word is, none ends to be fresh
pub none_ends : (clock : ℕ) → 0 < clock → is_ending clock nothing ≡ false
none_ends clock later = grind (arith, nat_tests)

module _ (b : Book) (routing : Routing) (boxes : List Mailbox) (m : ℕ) (routed : AreRouted b routing boxes) (within : m < length boxes)
    (clock : ℕ) (later : 0 < clock) (dues : List ℕ) (there : m < length dues) (due : ℕ)
    (next : IsNextLook clock (get_or boxes m unused) (hearers_of routing.listeners.items.items (get_or boxes m unused)) due) where
  abbrev is_asked : ℕ → Bool
  is_asked = is_asked_at b

  abbrev rules : List (Option Rule)
  rules = routing.rules.items.items

  abbrev box : Mailbox
  box = get_or boxes m unused

  abbrev hearers : List Listener
  hearers = hearers_of routing.listeners.items.items box

  abbrev x : ℕ → Received
  x = received_at rules boxes

  due-other : (q : ℕ) (r : Rule) → get_or rules q None ≡ Some r → r.mailbox ≢ m → due_at rules (set dues m due) q ≡ due_at rules dues q
  due-other q r is ne = due_by_rule rules (set dues m due) q r is ∙ get_or-set_other dues m r.mailbox due 0 ne ∙ sym (due_by_rule rules dues q r is)

  due-own : (q : ℕ) (r : Rule) → get_or rules q None ≡ Some r → r.mailbox ≡ m → due_at rules (set dues m due) q ≡ due
  due-own q r is own = due_by_rule rules (set dues m due) q r is ∙ ap (slice_index (set dues m due)) own ∙ get_or-set_same dues m due 0 there

  pub looked_due : AreDue is_asked clock x (due_at rules dues) → AreDue is_asked clock x (due_at rules (set dues m due))
  looked_due was q asked = by_place b routing boxes m routed within (IsDue clock (x q) (due_at rules (set dues m due) q)) q
      (λ is fresh. absurd (omega (arith, fresh, ap (λ (r : Received). r.end) (by_none rules boxes q is))))
      (λ r is own.
      subst (IsDue clock (x q)) (sym (due-own q r is own))
      (subst (λ y. IsDue clock y due) (sym (held_here b routing boxes m routed within q r is own))
      (each_asked b routing boxes m routed within (λ (l : Listener). IsDue clock (held_for box l.stale) due) next.each q r is own asked)))
      (λ r is ne. subst (IsDue clock (x q)) (sym (due-other q r is ne)) (was q asked))

  module _ (old new : List ℕ) (marks : (p : ℕ) → is_marked new p ≡ (list_any (λ (l : Listener). p == l.param && is_ending clock (held_for box l.stale)) hearers || is_marked old p)) where
    not_both : (a b : Bool) → a ≡ true → b ≡ true → (a && b) ≡ false → ⊥
    not_both true true one two none = false≢true (sym none)
    not_both true false one two none = false≢true two
    not_both false b one two none = false≢true one

    pub looked_ending : ((q : ℕ) → is_asked q ≡ true → is_marked old (q / 3) ≡ false → is_ending clock (x q) ≡ true → due_at rules dues q ≤ clock)
        → (q : ℕ) → is_asked q ≡ true → is_marked new (q / 3) ≡ false → is_ending clock (x q) ≡ true → due_at rules (set dues m due) q ≤ clock
    looked_ending was q asked off ends =
        let both = or_parts _ _ (sym (marks (q / 3)) ∙ off) in
        by_place b routing boxes m routed within (due_at rules (set dues m due) q ≤ clock) q
        (λ is. absurd (false≢true (sym (none_ends clock later) ∙ ap (is_ending clock) (sym (by_none rules boxes q is)) ∙ ends)))
        (λ r is own. absurd (not_both (q / 3 == q / 3) (is_ending clock (held_for box r.stale)) (eq-eqb (q / 3) (q / 3) refl)
        (ap (is_ending clock) (sym (held_here b routing boxes m routed within q r is own)) ∙ ends)
        (listener b routing boxes m routed within (IsListener is_asked rules m) (tells b routing boxes m routed within).are.each
        (λ (l : Listener). q / 3 == l.param && is_ending clock (held_for box l.stale)) both.0 q r is own asked).1))
        (λ r is ne. subst (λ key. key ≤ clock) (sym (due-other q r is ne)) (was q asked both.1 ends))

    pub looked_others : (p : ℕ) → is_marked old p ≡ false → ((q : ℕ) → q / 3 ≡ p → is_ending clock (x q) ≡ false) → is_marked new p ≡ false
    looked_others p off none =
        marks p
        ∙ ap (λ b. b || is_marked old p) (list_any_none (λ (l : Listener). p == l.param && is_ending clock (held_for box l.stale)) hearers
        (λ k d less. each _ ((tells b routing boxes m routed within).are.each k d less)))
        ∙ off
      where
        and_none : (b : Bool) → (b && false) ≡ false
        and_none true = refl
        and_none false = refl

        each : (l : Listener) → IsListener is_asked rules m l → (p == l.param && is_ending clock (held_for box l.stale)) ≡ false
        each l its = elim (cases_eq p l.param) [
          | inl e ↦
              let held : x l.place ≡ held_for box l.stale =
              held_here b routing boxes m routed within l.place its.rule its.there its.own ∙ sym (ap (λ (t : Listener). held_for box t.stale) its.is) in
              ap (λ b. p == l.param && b) (ap (is_ending clock) (sym held) ∙ none l.place (sym (e ∙ ap (λ (t : Listener). t.param) its.is))) ∙ and_none (p == l.param)
          | inr ne ↦ ap (λ b. b && is_ending clock (held_for box l.stale)) (ne_eqb p l.param ne)
        ]
