-- Which parameters are told: those of which a source took a word, or ended to be fresh.
use Rattle.std.proofs.Common.{◌≡◌, ℕ, suc, ◌+◌, ◌*◌, ◌/◌, ◌%◌, ◌≤◌, Bool, true, false, ltb, ◌||◌, List, [], get_or, Option, Some, None, refl, sym, ap, ◌∙◌, subst, arith, inl, inr}
use Rattle.std.specs.Prelude.{◌⊎◌}
use Rattle.std.specs.List.{list_any}
use Rattle.std.proofs.lemmas.Bool.{cases_Bool, cases_lt, cases_order, false≢true}
use Rattle.std.proofs.lemmas.Bool.Decides.{nat_tests}
use Rattle.ecam_spec.specs.Past.{previous}
use Rattle.ecam_spec.specs.Book.{Source, Parameter, Book}
use Rattle.ecam_spec.specs.Situation.{no_parameter, parameter_at}
use Rattle.ecam_spec.specs.Value.{BusWord, takes, arrives, is_fresh}
use Rattle.ecam_spec.specs.History.{OneMore}
use Rattle.ecam_spec.proofs.PastAgree.{once_within-below, previous-below}
use Rattle.param_table.specs.declared.received.Received.{Received}
use Rattle.book_model.specs.SourcePlaces.{parameter_with, source_at}
use Rattle.param_table.specs.Taking.{takes_at}
use Rattle.param_table.specs.HeldValues.{is_ending}
use Rattle.param_table.specs.TableState.{MayDiffer, SourceStands}
use Rattle.param_table.proofs.Moments.{arrives-push}
use Rattle.param_table.proofs.Sources.{source_there}
use Rattle.param_table.proofs.Said.{moment_stands, fresh_by_clock}

abbrev Why : ℕ → Source → (ℕ → List BusWord) → ℕ → Type 0
Why stale s words k = (arrives s words k ≡ true) ⊎ ((previous (is_fresh stale s words) k ≡ true) × (is_fresh stale s words k ≡ false))

-- by the place of the source
may_differ : (b : Book) (words : ℕ → List BusWord) (k p q : ℕ) (s : Source) → q / 3 ≡ p → source_at b.parameters q ≡ Some s
    → Why (parameter_with b.parameters q).stale s words k → MayDiffer (parameter_at b p) words k
may_differ b words k p q s row there why =
    subst (λ r. MayDiffer (get_or b.parameters r no_parameter) words k) row (record { place = q % 3; source = s; there = there; why = why })

-- one of the three places of a parameter passes, or none does
one_of : (f : ℕ → Bool) (p : ℕ) → ((q : ℕ) × (q / 3 ≡ p) × (f q ≡ true)) ⊎ ((q : ℕ) → q / 3 ≡ p → f q ≡ false)
one_of f p = elim (cases_Bool (f (3 * p))) [
  | inl first ↦ inl (3 * p, omega arith, first)
  | inr not_first ↦ elim (cases_Bool (f (3 * p + 1))) [
    | inl second ↦ inl (3 * p + 1, omega arith, second)
    | inr not_second ↦ elim (cases_Bool (f (3 * p + 2))) [
      | inl third ↦ inl (3 * p + 2, omega arith, third)
      | inr not_third ↦ inr (λ q row. none not_first not_second not_third q row)
    ]
  ]
] where
  none : f (3 * p) ≡ false → f (3 * p + 1) ≡ false → f (3 * p + 2) ≡ false → (q : ℕ) → q / 3 ≡ p → f q ≡ false
  none a b c q row = elim (cases_order q (3 * p + 1)) [
    | inl same ↦ ap f same ∙ b
    | inr (inl less) ↦ let at : q ≡ 3 * p = omega arith in ap f at ∙ a
    | inr (inr more) ↦ let at : q ≡ 3 * p + 2 = omega arith in ap f at ∙ c
  ]

fresh_same : (stale : ℕ) (s : Source) (words later : ℕ → List BusWord) (k : ℕ) → ((i : ℕ) → i ≤ k → arrives s words i ≡ arrives s later i)
    → is_fresh stale s words k ≡ is_fresh stale s later k
unfolding is_fresh
fresh_same stale s words later k same = once_within-below stale (arrives s words) (arrives s later) k same

-- the same words of the source
why_same : (stale : ℕ) (s : Source) (words later : ℕ → List BusWord) (k : ℕ) → ((i : ℕ) → i ≤ k → arrives s words i ≡ arrives s later i)
    → Why stale s words k → Why stale s later k
why_same stale s words later k same why = elim why [
  | inl came ↦ inl (sym (same k (omega arith)) ∙ came)
  | inr ended ↦ inr (
    sym (previous-below (is_fresh stale s words) (is_fresh stale s later) k (λ i h. fresh_same stale s words later i (λ j g. same j (omega arith)))) ∙ ended.0,
    sym (fresh_same stale s words later k same) ∙ ended.1,
  )
]

pub differ_below : (p : Parameter) (words later : ℕ → List BusWord) (k : ℕ) → ((i : ℕ) → i ≤ k → words i ≡ later i) → MayDiffer p words k → MayDiffer p later k
differ_below p words later k same m = record {
  place = m.place;
  source = m.source;
  there = m.there;
  why = why_same p.stale m.source words later k (λ i h. ap (list_any (takes m.source)) (same i h)) m.why;
}

-- one more word
or-right : (a b : Bool) → b ≡ true → (a || b) ≡ true
or-right true b e = refl
or-right false b e = e

why_push : (stale : ℕ) (s : Source) (old new : ℕ → List BusWord) (k : ℕ) (w : BusWord) → OneMore old new k w → Why stale s old k → Why stale s new k
why_push stale s old new k w on why = elim (cases_Bool (takes s w)) [
  | inl so ↦ inl (arrives-push s old new w k on ∙ ap (λ t. t || arrives s old k) so)
  | inr not_so ↦ why_same stale s old new k (λ i h. sym (same not_so i h)) why
] where
  same : takes s w ≡ false → (i : ℕ) → i ≤ k → arrives s new i ≡ arrives s old i
  same not_so i h = elim (cases_lt i k) [
    | inl less ↦ ap (list_any (takes s)) (on.before i less)
    | inr le ↦
        let at : i ≡ k = omega arith in
        ap (arrives s new) at ∙ arrives-push s old new w k on ∙ ap (λ t. t || arrives s old k) not_so ∙ sym (ap (arrives s old) at)
  ]

pub word_told : (b : Book) (old new : ℕ → List BusWord) (k : ℕ) (w : BusWord) (p : ℕ) (was now : Bool) → OneMore old new k w
    → (((q : ℕ) → q / 3 ≡ p → takes_at b.parameters w q ≡ false) → now ≡ was)
    → (was ≡ true → MayDiffer (parameter_at b p) old k) → now ≡ true → MayDiffer (parameter_at b p) new k
word_told b old new k w p was now on others told marked = elim (one_of (takes_at b.parameters w) p) [
  | inl found ↦
      let there = source_there (λ s. takes s w) (source_at b.parameters found.0) found.2 in
      may_differ b new k p found.0 there.0 found.1 there.1 (inl (arrives-push there.0 old new w k on ∙ ap (λ t. t || arrives there.0 old k) there.2))
  | inr none ↦
      let m = told (sym (others none) ∙ marked) in
      record { place = m.place; source = m.source; there = m.there; why = why_push (parameter_at b p).stale m.source old new k w on m.why }
]

-- a source whose freshness ends with a moment
ended : (b : Book) (words : ℕ → List BusWord) (k clock p q : ℕ) (r : Received) → words (suc k) ≡ [] → q / 3 ≡ p → is_ending (suc clock) r ≡ true
    → (source_at b.parameters q ≡ None → r.end ≡ 0)
    → ((s : Source) → source_at b.parameters q ≡ Some s → SourceStands (parameter_with b.parameters q).stale s words k clock r)
    → MayDiffer (parameter_at b p) words (suc k)
unfolding previous
ended b words k clock p q r none row ends blank stands = by (source_at b.parameters q) refl where
  by : (o : Option Source) → source_at b.parameters q ≡ o → MayDiffer (parameter_at b p) words (suc k)
  by None is = let over : r.end ≡ 0 = blank is in absurd (grind (arith, nat_tests))
  by (Some s) is =
      let stale = (parameter_with b.parameters q).stale in
      let was = stands s is in
      let now = moment_stands stale s words k clock r none was in
      let before : ltb clock r.end ≡ true = grind (arith, nat_tests) in
      let after : ltb (suc clock) r.end ≡ false = grind (arith, nat_tests) in
      may_differ b words (suc k) p q s row is
      (inr (sym (fresh_by_clock stale s words k clock r was) ∙ before, sym (fresh_by_clock stale s words (suc k) (suc clock) r now) ∙ after))

pub moment_told : (b : Book) (words : ℕ → List BusWord) (k clock p : ℕ) (x : ℕ → Received) (now : Bool) → words (suc k) ≡ []
    → (((q : ℕ) → q / 3 ≡ p → is_ending (suc clock) (x q) ≡ false) → now ≡ false)
    → ((q : ℕ) → source_at b.parameters q ≡ None → (x q).end ≡ 0)
    → ((q : ℕ) (s : Source) → source_at b.parameters q ≡ Some s → SourceStands (parameter_with b.parameters q).stale s words k clock (x q))
    → now ≡ true → MayDiffer (parameter_at b p) words (suc k)
moment_told b words k clock p x now none others blank stands marked = elim (one_of (λ q. is_ending (suc clock) (x q)) p) [
  | inl found ↦ ended b words k clock p found.0 (x found.0) none found.1 found.2 (blank found.0) (stands found.0)
  | inr not_ending ↦ absurd (false≢true (sym (others not_ending) ∙ marked))
]
