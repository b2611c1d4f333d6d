-- The values of a moment, by those of the moment before it.
use Rattle.std.proofs.Common.{◌≡◌, ◌≢◌, ℕ, zero, suc, ◌+◌, ◌-◌, ◌<◌, ◌≤◌, Bool, true, false, not, ◌&&◌, ◌||◌, ℤ, pos, ◌≤ℤ◌, List, length, get_or, set, replicate, Option, Some, None, IfSome, refl, sym, ap, subst, ◌∙◌, inl, inr, arith, eqb}
use Rattle.std.specs.Option.{option_eq}
use Rattle.std.specs.Ordering.{int_eq}
use Rattle.std.proofs.lemmas.Int.{ints}
use Rattle.std.proofs.lemmas.Bool.Decides.{Decides-int_eq}
use Rattle.std.proofs.Math.Bool.{and-false, and-true, or-false}
use Rattle.std.proofs.lemmas.Bool.{cases_eq, cases_lt, eq-eqb, eqb-true, ne_eqb}
use Rattle.std.proofs.lemmas.List.{get_or-set_other}
use Rattle.std.proofs.lemmas.List.Elements.{All-from_get_or, All-set}
use Rattle.ecam_spec.specs.declared.kinds.Kind.{Kind}
use Rattle.ecam_spec.specs.declared.kinds.Kind.TheVariants.{Disc, Bnr, Bcd}
use Rattle.ecam_spec.specs.Book.{Book}
use Rattle.ecam_spec.specs.Value.{BusWord, value}
use Rattle.ecam_spec.specs.Situation.{parameter_at}
use Rattle.param_table.specs.Asked.{is_asked_for}
use Rattle.param_table.specs.TableState.{IsValueOf, ParamsStand, value_before}
use Rattle.param_table.specs.declared.table.Params.{Params}
use Rattle.system_display.specs.Pages.{IsShort, AreShort}
use Rattle.term_eval.specs.declared.reading.Reading.TheVariants.{Value}
use Rattle.fwc_lane.specs.declared.terms.Terms.{Terms}
use Rattle.fwc_lane.specs.ReadTo.{AreReadTo}
use Rattle.fwc_lane.specs.TermsFit.{TermsFit}
use Rattle.fwc_lane.specs.Waking.{HasWoken, ranged, value_turned}
use Rattle.fwc_lane.proofs.Awake.{awake-none, awake-off, awake-then}
use Rattle.fwc_lane.proofs.FlagSteps.{set-own, set-length}
use Rattle.fwc_lane.proofs.Listing.{right-true}
use Rattle.fwc_lane.proofs.Ranges.{ranged-in, ranged-above}

pub is-short : (kind : Kind) (o : Option ℤ) → IfSome o (IsValueOf kind) → IfSome o IsShort
is-short Bnr None h = h
is-short Bcd None h = h
is-short Disc None h = h
is-short Bnr (Some z) h = h
is-short Bcd (Some z) h = h
is-short Disc (Some z) h =
    let low : pos 0 ≤ℤ z = h.0 in
    let high : z ≤ℤ pos 1 = h.1 in
    (omega (arith, ints), omega (arith, ints))

-- ---- before any moment

pub none-each : (n i : ℕ) → get_or {A = Option ℤ} (replicate n None) i None ≡ None
none-each zero i = refl
none-each (suc n) zero = refl
none-each (suc n) (suc i) = none-each n i

pub none-short : (n : ℕ) → AreShort (replicate n None)
none-short n = All-from_get_or (λ v. IfSome v IsShort) (replicate n None) None (λ i lt. subst (λ v. IfSome v IsShort) (sym (none-each n i)) tt)

-- ---- one value after another

-- a value turned into itself
same-self : (o : Option ℤ) → not (option_eq int_eq o o) ≡ false
same-self None = refl
same-self (Some z) = ap not ((Decides-int_eq z z).1 refl)

pub none-turned : (n : ℕ) (values : List (Option ℤ)) (o : ℕ) → ranged 0 n (value_turned values values) o ≡ false
none-turned n values o = elim (cases_lt o n) [
  | inl lt ↦ ranged-in 0 n (value_turned values values) o (omega arith) (omega arith) ∙ same-self (get_or values (o - 0) None)
  | inr le ↦ ranged-above 0 n (value_turned values values) o (omega arith)
]

-- value p was as at first, and is set
module _ (n p : ℕ) (was before after : List (Option ℤ)) (there : p < n) (kept : get_or before p None ≡ get_or was p None) (others : (j : ℕ) → j ≢ p → get_or after j None ≡ get_or before j None) where
  old-off : (o : ℕ) → o ≡ p → ranged 0 n (value_turned was before) o ≡ false
  old-off o e =
      ranged-in 0 n (value_turned was before) o (omega arith) (omega (arith, e, there))
      ∙ ap (value_turned was before) (let z : o - 0 ≡ p = omega (arith, e) in z)
      ∙ ap (λ x. not (option_eq int_eq x (get_or was p None))) kept ∙ same-self (get_or was p None)

  new-own : (o : ℕ) → o ≡ p → ranged 0 n (value_turned was after) o ≡ value_turned was after p
  new-own o e = ranged-in 0 n (value_turned was after) o (omega arith) (omega (arith, e, there)) ∙ ap (value_turned was after) (let z : o - 0 ≡ p = omega (arith, e) in z)

  apart : (o : ℕ) → o ≢ p → ranged 0 n (value_turned was after) o ≡ ranged 0 n (value_turned was before) o
  apart o ne = elim (cases_lt o n) [
    | inl lt ↦
        let same : o - 0 ≡ o = omega arith in
        ranged-in 0 n (value_turned was after) o (omega arith) (omega arith)
        ∙ ap (λ x. not (option_eq int_eq x (get_or was (o - 0) None))) (others (o - 0) (λ e. ne (sym same ∙ e)))
        ∙ sym (ranged-in 0 n (value_turned was before) o (omega arith) (omega arith))
    | inr le ↦ ranged-above 0 n (value_turned was after) o (omega arith) ∙ sym (ranged-above 0 n (value_turned was before) o (omega arith))
  ]

  one-turned : (o : ℕ) → ranged 0 n (value_turned was after) o ≡ (ranged 0 n (value_turned was before) o || (value_turned was after p && eqb o p))
  one-turned o = elim (cases_eq o p) [
    | inl e ↦
        new-own o e
        ∙ sym (ap (λ x. x || (value_turned was after p && eqb o p)) (old-off o e) ∙ ap (λ x. value_turned was after p && x) (eq-eqb o p e) ∙ and-true (value_turned was after p))
    | inr ne ↦
        apart o ne
        ∙ sym (ap (λ x. ranged 0 n (value_turned was before) o || (value_turned was after p && x)) (ne_eqb o p ne) ∙ ap (λ x. ranged 0 n (value_turned was before) o || x) (and-false (value_turned was after p)) ∙ or-false (ranged 0 n (value_turned was before) o))
  ]

  -- what turned before reads as it did
  read-before : (o : ℕ) → ranged 0 n (value_turned was before) o ≡ true → Value (get_or after o None) ≡ Value (get_or before o None)
  read-before o on = elim (cases_eq o p) [
    | inl e ↦ absurd (let w : ⊥ = (let clash : false ≡ true = sym (old-off o e) ∙ on in cc) in w)
    | inr ne ↦ ap Value (others o ne)
  ]

-- ---- how far they are read

module _ (b : Book) (params : Params) (was : List (Option ℤ)) (first : Terms) where
  -- none is
  pub read-none : length was ≡ length b.parameters → AreShort was → TermsFit b first → AreReadTo b params was first 0 was first
  read-none many short fits = record {
    many = many;
    short = short;
    fits = fits;
    read = λ words k stands before p lt. absurd (omega arith);
    later = λ p le. refl;
    wakes = awake-none b (ranged 0 (length b.parameters) (value_turned was was)) (λ o. Value (get_or was o None)) first (none-turned (length b.parameters) was);
  }

  module _ (from : ℕ) (now : List (Option ℤ)) (terms : Terms) (is : AreReadTo b params was first from now terms) where
    -- some that follow have no other value
    pub read-over : (end : ℕ) → from ≤ end → ((words : ℕ → List BusWord) (k : ℕ) → ParamsStand b words k params → (p : ℕ) → from ≤ p → p < end → p < length b.parameters → is_asked_for b p ≡ true
        → value (parameter_at b p) words k ≡ value_before (parameter_at b p) words k) → AreReadTo b params was first end now terms
    read-over end more same = record {
      many = is.many;
      short = is.short;
      fits = is.fits;
      read = λ words k stands before p low within on. elim (cases_lt p from) [
        | inl lt ↦ is.read words k stands before p lt within on
        | inr le ↦ is.later p le ∙ before p within on ∙ sym (same words k stands p le low within on)
      ];
      later = λ p le. is.later p (omega (arith, le, more));
      wakes = is.wakes;
    }

    -- the next is read, and wakes whom it wakes where it is another
    module _ (after : List (Option ℤ)) (v : Option ℤ) (set-is : after ≡ set now from v) (there : from < length b.parameters)
        (has : (words : ℕ → List BusWord) (k : ℕ) → ParamsStand b words k params → v ≡ value (parameter_at b from) words k) (bound : IfSome v (IsValueOf (parameter_at b from).kind)) where
      own : get_or after from None ≡ v
      own = set-own now after from v None set-is (omega (arith, is.many, there))

      others : (j : ℕ) → j ≢ from → get_or after j None ≡ get_or now j None
      others j ne = ap (λ ys. get_or ys j None) set-is ∙ get_or-set_other now from j v None ne

      as-first : get_or now from None ≡ get_or was from None
      as-first = is.later from (omega arith)

      turned-is : not (option_eq int_eq v (get_or now from None)) ≡ value_turned was after from
      turned-is = ap (λ x. not (option_eq int_eq v x)) as-first ∙ ap (λ x. not (option_eq int_eq x (get_or was from None))) (sym own)

      read-next : (turns : Bool) → turns ≡ not (option_eq int_eq v (get_or now from None)) → (terms' : Terms)
          → TermsFit b terms' → HasWoken b (λ o. turns && eqb o from) (λ o. Value v) terms terms' → AreReadTo b params was first (from + 1) after terms'
      read-next turns flag terms' fits wakes = record {
        many = set-length now after from v None set-is ∙ is.many;
        short = subst AreShort (sym set-is) (All-set (λ x. IfSome x IsShort) now from v (is-short _ v bound) is.short);
        fits = fits;
        read = λ words k stands before p low within on. elim (cases_eq p from) [
          | inl e ↦ ap (λ j. get_or after j None) e ∙ own ∙ has words k stands ∙ ap (λ j. value (parameter_at b j) words k) (sym e)
          | inr ne ↦ others p ne ∙ is.read words k stands before p (omega (arith, low, ne)) within on
        ];
        later = λ p le. others p (λ e. absurd (omega (arith, le, e))) ∙ is.later p (omega (arith, le));
        wakes = awake-then b (ranged 0 (length b.parameters) (value_turned was now)) (λ o. turns && eqb o from) (ranged 0 (length b.parameters) (value_turned was after))
            (λ o. Value (get_or now o None)) (λ o. Value v) (λ o. Value (get_or after o None)) first terms terms'
            (λ o.
            one-turned (length b.parameters) from was now after there as-first others o
            ∙ ap (λ x. ranged 0 (length b.parameters) (value_turned was now) o || (x && eqb o from)) (sym (flag ∙ turned-is)))
            (read-before (length b.parameters) from was now after there as-first others)
            (λ o on. ap (λ x. Value (get_or after x None)) (eqb-true o from (right-true turns (eqb o from) on)) ∙ ap Value own)
            is.wakes wakes;
      }

      -- one that is as it was wakes none
      pub read-same : not (option_eq int_eq v (get_or now from None)) ≡ false → AreReadTo b params was first (from + 1) after terms
      read-same off = read-next false (sym off) terms is.fits (awake-off b from (λ o. Value v) terms false refl)

      -- one that is another wakes
      pub read-turned : not (option_eq int_eq v (get_or now from None)) ≡ true → (terms' : Terms) → TermsFit b terms' → HasWoken b (λ o. true && eqb o from) (λ o. Value v) terms terms'
          → AreReadTo b params was first (from + 1) after terms'
      read-turned on terms' fits wakes = read-next true (sym on) terms' fits wakes
