-- The value of a parameter, by its sources in order, now and in the moment before.
use Rattle.std.proofs.Common.{◌≡◌, cond, ltb, ℕ, zero, suc, ◌+◌, ◌-◌, ◌*◌, ◌/◌, ◌%◌, ◌<◌, ◌≤◌, Bool, true, false, not, List, [], ◌∷◌, length, map, get_or, Option, Some, None, ℤ, All, refl, sym, ap, ◌∙◌, subst, arith, add-zero}
use Rattle.std.specs.Prelude.{is_some}
use Rattle.std.specs.Option.{option_or, option_and_then}
use Rattle.std.specs.List.{slice_get}
use Rattle.std.proofs.lemmas.List.Elements.{All-get_or}
use Rattle.ecam_spec.specs.KeepsLimits.{IsSoundParameter}
use Rattle.ecam_spec.specs.Book.{Source, Parameter, Book}
use Rattle.ecam_spec.specs.Situation.{no_parameter, parameter_at}
use Rattle.ecam_spec.specs.Value.{BusWord, reading, source_value, value}
use Rattle.ecam_spec.specs.Places.{first_of}
use Rattle.wakes.specs.Marks.{is_marked, Finds}
use Rattle.param_table.specs.declared.received.Received.{Received}
use Rattle.param_table.specs.declared.rules.Rule.{Rule}
use Rattle.param_table.specs.declared.table.Params.{Params}
use Rattle.param_table.specs.Asked.{is_asked_for}
use Rattle.param_table.specs.Rules.{IsRule, RuleIs}
use Rattle.book_model.specs.SourcePlaces.{parameter_with, source_at}
use Rattle.param_table.specs.TableState.{ParamsFit, ParamsStand, received_before, received_by, source_before, value_before}
use Rattle.param_table.specs.HeldValues.{given, given_by, first_given}
use Rattle.param_table.proofs.Said.{given_is}
use Rattle.param_table.specs.Words.{reads, low_of}
use Rattle.param_table.proofs.Masks.{reads-own}
use Rattle.param_table.proofs.ByRule.{rule-is}

or-none : (a : Option ℤ) → option_or a None ≡ a
or-none None = refl
or-none (Some x) = refl

-- the first of at most three
firsts : (f : Source → Option ℤ) (ss : List Source) → length ss ≤ 3
    → option_or (option_and_then f (slice_get ss 0)) (option_or (option_and_then f (slice_get ss 1)) (option_and_then f (slice_get ss 2))) ≡ first_of (map f ss)
firsts f [] few = refl
firsts f (a ∷ []) few = refl
firsts f (a ∷ b ∷ []) few = refl
firsts f (a ∷ b ∷ c ∷ []) few = ap (λ o. option_or (f a) (option_or (f b) o)) (sym (or-none (f c)))
firsts f (a ∷ b ∷ c ∷ d ∷ ss) few = absurd (omega arith)

-- the place of source j of parameter p
at_place : (b : Book) (p j : ℕ) → j < 3 → source_at b.parameters (3 * p + j) ≡ slice_get (parameter_at b p).sources j
at_place b p j small =
    let row : (3 * p + j) / 3 ≡ p = omega arith in
    let column : (3 * p + j) % 3 ≡ j = omega arith in
    ap (λ r. slice_get (get_or b.parameters r no_parameter).sources ((3 * p + j) % 3)) row ∙ ap (slice_get (parameter_at b p).sources) column

-- what a word says by a rule, it says to the source
rule_reads : (params : List Parameter) (q : ℕ) (t : Rule) (bits : ℕ) → (is : RuleIs params q t) → reads t.kind t.low t.range bits ≡ reading t.kind is.source bits
rule_reads params q t bits is =
    ap (λ n. reads t.kind n t.range bits) is.low ∙ ap (λ n. reads t.kind (low_of t.kind is.source) n bits) is.range ∙ reads-own t.kind is.source bits

-- what a place gives by its rule, it gives by its source
rule_gives : (params : List Parameter) (q clock : ℕ) (rule : Option Rule) (r : Received) → IsRule params q rule
    → given_by clock rule r ≡ option_and_then (λ s. given clock (parameter_with params q).kind s r) (source_at params q)
rule_gives params q clock None r none = sym (ap (option_and_then (λ s. given clock (parameter_with params q).kind s r)) none)
rule_gives params q clock (Some t) r is =
    ap (λ o. cond (ltb clock r.end) o None) (rule_reads params q t r.bits is)
    ∙ ap (λ kind. given clock kind is.source r) is.kind ∙ sym (ap (option_and_then (λ s. given clock (parameter_with params q).kind s r)) is.there)

module _ (b : Book) (t : Params) (p : ℕ) (fits : ParamsFit b t) (clock : ℕ) (x : ℕ → Received) where
  abbrev gives : ℕ → Option ℤ
  gives q = given_by clock (get_or t.routing.rules.items.items q None) (x q)

  abbrev Each : (Source → Option ℤ) → Type 0
  Each f = (q : ℕ) (s : Source) → q / 3 ≡ p → source_at b.parameters q ≡ Some s
      → given clock (parameter_with b.parameters q).kind s (x q) ≡ f s

  -- what a place gives, by the source that may be there
  place_gives : (f : Source → Option ℤ) → Each f → (j : ℕ) → j < 3 → gives (3 * p + j) ≡ option_and_then f (slice_get (parameter_at b p).sources j)
  place_gives f each j small =
      rule_gives b.parameters q clock (get_or t.routing.rules.items.items q None) r (rule-is b.parameters (3 * length b.parameters) t.routing.rules.items.items fits.routed.rules (omega arith) q) ∙ by (source_at b.parameters q) refl ∙ ap (option_and_then f) (at_place b p j small) where
        q : ℕ
        q = 3 * p + j

        r : Received
        r = x q

        by : (o : Option Source) → source_at b.parameters q ≡ o → option_and_then (λ s. given clock (parameter_with b.parameters q).kind s r) o ≡ option_and_then f o
        by None is = refl
        by (Some s) is = each q s (omega arith) is

  gives_first : (f : Source → Option ℤ) → Each f → length (parameter_at b p).sources ≤ 3
      → first_given clock t.routing.rules.items.items x (3 * p) ≡ first_of (map f (parameter_at b p).sources)
  gives_first f each few =
      ap (λ q. option_or (gives q) (option_or (gives (3 * p + 1)) (gives (3 * p + 2)))) (sym (add-zero (3 * p)))
      ∙ ap (λ o. option_or o (option_or (gives (3 * p + 1)) (gives (3 * p + 2)))) (place_gives f each 0 (omega arith))
      ∙ ap (λ o. option_or (option_and_then f (slice_get (parameter_at b p).sources 0)) (option_or o (gives (3 * p + 2)))) (place_gives f each 1 (omega arith))
      ∙ ap (λ o. option_or (option_and_then f (slice_get (parameter_at b p).sources 0)) (option_or (option_and_then f (slice_get (parameter_at b p).sources 1)) o)) (place_gives f each 2 (omega arith))
      ∙ firsts f (parameter_at b p).sources few

module _ (b : Book) (words : ℕ → List BusWord) (k : ℕ) (t : Params) (p : ℕ) (stands : ParamsStand b words k t) where
  pub value_is : length (parameter_at b p).sources ≤ 3 → first_given t.clock t.routing.rules.items.items (received_by t) (3 * p) ≡ value (parameter_at b p) words k
  unfolding value
  value_is few = gives_first b t p stands.fits t.clock (received_by t) (λ s. source_value (parameter_at b p).kind (parameter_at b p).stale s words k)
      (λ q s row there.
      subst (λ r. given t.clock (parameter_with b.parameters q).kind s (received_by t q) ≡ source_value (get_or b.parameters r no_parameter).kind (get_or b.parameters r no_parameter).stale s words k) row
      (given_is _ _ s words k t.clock (received_by t q) (stands.sources q s there)))
      few

  none_first : (j : ℕ) (ss : List Source) → j ≡ 0 → first_of (map (λ s. source_before (parameter_at b p).kind (parameter_at b p).stale s words j) ss) ≡ None
  none_first zero [] e = refl
  none_first zero (s ∷ ss) e = none_first zero ss e
  none_first (suc j) ss e = absurd (omega arith)

  before_is : (j : ℕ) → first_of (map (λ s. source_before (parameter_at b p).kind (parameter_at b p).stale s words j) (parameter_at b p).sources) ≡ value_before (parameter_at b p) words j
  unfolding value_before value
  before_is zero = none_first zero (parameter_at b p).sources refl
  before_is (suc j) = refl

  -- where the sources give what they gave in the moment before, the first of them does
  gave_first : (clock : ℕ) (x : ℕ → Received) → length (parameter_at b p).sources ≤ 3
      → ((q : ℕ) (s : Source) → q / 3 ≡ p → source_at b.parameters q ≡ Some s
      → given clock (parameter_with b.parameters q).kind s (x q) ≡ source_before (parameter_with b.parameters q).kind (parameter_with b.parameters q).stale s words k)
      → first_given clock t.routing.rules.items.items x (3 * p) ≡ value_before (parameter_at b p) words k
  gave_first clock x few each =
      gives_first b t p stands.fits clock x (λ s. source_before (parameter_at b p).kind (parameter_at b p).stale s words k)
      (λ q s row there.
      subst (λ r. given clock (parameter_with b.parameters q).kind s (x q) ≡ source_before (get_or b.parameters r no_parameter).kind (get_or b.parameters r no_parameter).stale s words k) row
      (each q s row there))
      few
      ∙ before_is k

  pub value_before_is : length (parameter_at b p).sources ≤ 3
      → first_given (t.clock - 1) t.routing.rules.items.items (received_before t) (3 * p) ≡ value_before (parameter_at b p) words k
  value_before_is few = gave_first (t.clock - 1) (received_before t) few (λ q s row there. stands.before q s there)

  -- a parameter that is asked for and isn't marked has the value of the moment before
  pub unchanged_is : length (parameter_at b p).sources ≤ 3 → is_asked_for b p ≡ true → is_marked t.held.changed p ≡ false
      → value (parameter_at b p) words k ≡ value_before (parameter_at b p) words k
  unchanged_is few asked unmarked =
      sym (value_is few)
      ∙ gave_first t.clock (received_by t) few (λ q s row there. stands.unchanged q s there (ap (is_asked_for b) row ∙ asked) (ap (is_marked t.held.changed) row ∙ unmarked))

-- a parameter of a sound book has at most three sources
pub few_sources : (b : Book) (p : ℕ) → All IsSoundParameter b.parameters → p < length b.parameters → length (parameter_at b p).sources ≤ 3
few_sources b p sound within = (All-get_or IsSoundParameter b.parameters p no_parameter within sound).source_count
