-- The rules of all places, and what a source holds by its rule.
use Rattle.std.proofs.Common.{◌≡◌, ℕ, zero, suc, ◌+◌, ◌*◌, ◌/◌, ◌<◌, ◌≤◌, ◌==◌, Bool, true, false, cond, List, [], ◌∷◌, length, map, get_or, slice_index, Option, Some, None, All, refl, sym, ap, ◌∙◌, subst, arith, inl, inr}
use Rattle.std.specs.Option.{option_map_or}
use Rattle.std.proofs.lemmas.Bool.{cases_lt, ne_eqb}
use Rattle.std.proofs.lemmas.Option.{same_Some, none-some}
use Rattle.std.proofs.lemmas.List.{get_or_default, get_or_past}
use Rattle.ecam_spec.specs.Book.{Source, Parameter}
use Rattle.ecam_spec.specs.KeepsLimits.{IsSoundParameter}
use Rattle.book_model.specs.SourcePlaces.{source_at}
use Rattle.book_model.proofs.SourcePlaces.{no_source, sound_source}
use Rattle.param_table.specs.declared.rules.Rule.{Rule}
use Rattle.param_table.specs.declared.mailbox.Mailbox.{Mailbox}
use Rattle.param_table.specs.declared.routing.Routing.{Routing}
use Rattle.param_table.specs.HeldValues.{nothing, unused, at_start, held_for, received_at, mailbox_at, due_at}
use Rattle.param_table.specs.Words.{IsReadable, low_of}
use Rattle.param_table.specs.Rules.{IsRule, RuleIs, AreRules}
use Rattle.param_table.proofs.Masks.{readable}

-- past the end there is neither a rule nor a source
pub rule-is : (params : List Parameter) (n : ℕ) (rules : List (Option Rule)) → AreRules params n rules → 3 * length params ≤ n → (q : ℕ) → IsRule params q (get_or rules q None)
rule-is params n rules are many q = elim (cases_lt q n) [
  | inl within ↦ are.each q within
  | inr past ↦ subst (IsRule params q) (sym (get_or_past rules q None (omega (arith, past, are.count)))) (no_source params q (omega arith))
]

-- the rule that a look at a place finds
pub rule_there : (routing looked : Routing) (q : ℕ) (o : Option Rule) (r : Rule) → looked ≡ routing → q < length routing.rules.items.items
    → o ≡ get_or looked.rules.items.items q o → o ≡ Some r → get_or routing.rules.items.items q None ≡ Some r
rule_there routing looked q o r same within found is =
    sym (get_or_default routing.rules.items.items q o None within) ∙ ap (λ (t : Routing). get_or t.rules.items.items q o) (sym same) ∙ sym found ∙ is

-- the rule of a source
pub some_rule : (params : List Parameter) (q : ℕ) (s : Source) (o : Option Rule) → IsRule params q o → source_at params q ≡ Some s → (r : Rule) × (o ≡ Some r) × RuleIs params q r
some_rule params q s None none there = absurd (none-some s (sym none ∙ there))
some_rule params q s (Some r) rule there = (r, refl, rule)

-- the source of a rule
pub rule_source : (params : List Parameter) (q : ℕ) (r : Rule) (o : Option Rule) → IsRule params q o → o ≡ Some r → RuleIs params q r
rule_source params q r None rule is = absurd (none-some r is)
rule_source params q r (Some t) rule is = subst (RuleIs params q) (same_Some t r is) rule

pub no_rule : (params : List Parameter) (q : ℕ) (o : Option Rule) → IsRule params q o → source_at params q ≡ None → o ≡ None
no_rule params q None rule none = refl
no_rule params q (Some r) rule none = absurd (none-some rule.source (sym none ∙ rule.there))

pub no_rule_past : (params : List Parameter) (rules : List (Option Rule)) → AreRules params (3 * length params) rules → (q p : ℕ) → q / 3 ≡ p → length params ≤ p → get_or rules q None ≡ None
no_rule_past params rules are q p row past = get_or_past rules q None (omega (arith, row, past, are.count))

-- words are read by a sound source's rule as they can be
pub rule_readable : (params : List Parameter) (q : ℕ) (r : Rule) → RuleIs params q r → All IsSoundParameter params → IsReadable r.kind r.low r.range
rule_readable params q r rule sound =
    subst (λ low. IsReadable r.kind low r.range) (sym rule.low)
    (subst (IsReadable r.kind (low_of r.kind rule.source)) (sym rule.range) (readable r.kind rule.source (sound_source params q rule.source sound rule.there)))

-- what is held where no rule is, and by a rule
pub by_none : (rules : List (Option Rule)) (mailboxes : List Mailbox) (q : ℕ) → get_or rules q None ≡ None → received_at rules mailboxes q ≡ nothing
by_none rules mailboxes q is = ap (λ o. option_map_or (λ (r : Rule). held_for (get_or mailboxes r.mailbox unused) r.stale) o nothing) is

pub by_rule : (rules : List (Option Rule)) (mailboxes : List Mailbox) (q : ℕ) (r : Rule) → get_or rules q None ≡ Some r
    → received_at rules mailboxes q ≡ held_for (get_or mailboxes r.mailbox unused) r.stale
by_rule rules mailboxes q r is = ap (λ o. option_map_or (λ (r : Rule). held_for (get_or mailboxes r.mailbox unused) r.stale) o nothing) is

-- its mailbox, with which it is looked at
pub mailbox_by_rule : (rules : List (Option Rule)) (q : ℕ) (r : Rule) → get_or rules q None ≡ Some r → mailbox_at rules q ≡ r.mailbox
mailbox_by_rule rules q r is = ap (λ o. option_map_or (λ (t : Rule). t.mailbox) o 0) is

pub due_by_rule : (rules : List (Option Rule)) (dues : List ℕ) (q : ℕ) (r : Rule) → get_or rules q None ≡ Some r → due_at rules dues q ≡ slice_index dues r.mailbox
due_by_rule rules dues q r is = ap (slice_index dues) (mailbox_by_rule rules q r is)

-- each mailbox as it was when the moment began
pub get_or-at_start : (clock : ℕ) (mailboxes : List Mailbox) (m : ℕ) → get_or (map (at_start clock) mailboxes) m unused ≡ at_start clock (get_or mailboxes m unused)
get_or-at_start clock [] m = by (0 == clock + 1) where
  by : (b : Bool) → unused ≡ cond b (record unused { after = 0; bits = 0 }) unused
  by true = refl
  by false = refl
get_or-at_start clock (x ∷ xs) zero = refl
get_or-at_start clock (x ∷ xs) (suc m) = get_or-at_start clock xs m

pub started_by_rule : (rules : List (Option Rule)) (mailboxes : List Mailbox) (clock q : ℕ) (r : Rule) → get_or rules q None ≡ Some r
    → received_at rules (map (at_start clock) mailboxes) q ≡ held_for (at_start clock (get_or mailboxes r.mailbox unused)) r.stale
started_by_rule rules mailboxes clock q r is =
    by_rule rules (map (at_start clock) mailboxes) q r is ∙ ap (λ m. held_for m r.stale) (get_or-at_start clock mailboxes r.mailbox)

-- where no word came in the moment that hasn't ended, each holds what it held when that began
pub started_early : (rules : List (Option Rule)) (mailboxes : List Mailbox) (clock : ℕ) → ((m : ℕ) → (get_or mailboxes m unused).after ≤ clock) → (q : ℕ)
    → received_at rules (map (at_start clock) mailboxes) q ≡ received_at rules mailboxes q
started_early rules mailboxes clock early q = by (get_or rules q None) refl where
  same : (m : ℕ) → at_start clock (get_or mailboxes m unused) ≡ get_or mailboxes m unused
  same m =
      let box = get_or mailboxes m unused in
      ap (λ t. cond t (record box { after = box.earlier_after; bits = box.earlier_bits }) box) (ne_eqb box.after (clock + 1) (λ e. omega (arith, e, early m)))

  by : (o : Option Rule) → get_or rules q None ≡ o → received_at rules (map (at_start clock) mailboxes) q ≡ received_at rules mailboxes q
  by None is = by_none rules (map (at_start clock) mailboxes) q is ∙ sym (by_none rules mailboxes q is)
  by (Some r) is = started_by_rule rules mailboxes clock q r is ∙ ap (λ m. held_for m r.stale) (same r.mailbox) ∙ sym (by_rule rules mailboxes q r is)
