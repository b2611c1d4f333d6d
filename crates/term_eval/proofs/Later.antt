-- A condition that is left alone: its due moment stays right, and it is woken exactly where an operand moves or the moment
-- is due.
use Rattle.std.proofs.Common.{◌≡◌, ℕ, suc, ◌-◌, ◌<◌, ◌≤◌, ◌^◌, min, Bool, true, false, not, ◌||◌, List, eqb, inl, inr, refl, sym, ◌∙◌, ap, arith}
use Rattle.std.specs.List.{list_any}
use Rattle.std.specs.Option.{option_eq}
use Rattle.std.specs.Ordering.{int_eq}
use Rattle.std.proofs.lemmas.Bool.{cases_lt, eqb-true, or_parts}
use Rattle.std.proofs.lemmas.Bool.Decides.{eqb_tells, nat_tests}
use Rattle.std.proofs.lemmas.List.Folds.{list_any-append}
use Rattle.ecam_spec.specs.Book.{Tree, Trees, constant, discrete, valid, compared, in_phase, alert, press, computer, negation, all, any, at_least, confirmed, held, risen, latched, none, more}
use Rattle.ecam_spec.specs.Term.{World, holds}
use Rattle.ecam_spec.specs.TermNames.{AgreeOn, AgreeOnAll}
use Rattle.ecam_spec.proofs.TermNames.{holds-below}
use Rattle.term_eval.specs.declared.memory.Cell.{Cell}
use Rattle.term_eval.specs.CellState.{Stand}
use Rattle.term_eval.specs.Woken.{differ, turned, moved, operands, operands_of, turns, turns_of, woken}
use Rattle.term_eval.specs.Due.{staying, IsDue}
use Rattle.term_eval.proofs.Rest.{not-false, differ-not, same-value, truth-rests, stands-on}
use Rattle.term_eval.proofs.Staying.{same-agree, staying-same}

-- worlds that agree on what a condition names turn it in the same moments
module _ (v w : World) (m : ℕ) where
  turned-agree : (c : Tree) → ((i : ℕ) → i ≤ m → AgreeOn v w i c) → turned (holds v c) m ≡ turned (holds w c) m
  turned-agree c same =
      ap (λ b. differ b (holds v c (m - 1))) (holds-below v w c m same)
      ∙ ap (λ b. differ (holds w c m) b) (holds-below v w c (m - 1) (λ i below. same i (omega arith)))

  mutual
    unfolding turns AgreeOn

    pub turns-agree : (c : Tree) → ((i : ℕ) → i ≤ m → AgreeOn v w i c) → turns v c m ≡ turns w c m
    turns-agree (constant b) same = refl
    turns-agree (discrete p) same = refl
    turns-agree (valid p) same = refl
    turns-agree (compared p op x) same = refl
    turns-agree (in_phase set) same = refl
    turns-agree (alert a) same = refl
    turns-agree (press x) same = refl
    turns-agree (computer n) same = refl
    turns-agree (negation c) same = turns-agree c same
    turns-agree (all cs) same = all-turn-agree cs same
    turns-agree (any cs) same = all-turn-agree cs same
    turns-agree (at_least n cs) same = all-turn-agree cs same
    turns-agree (confirmed c n) same = ap (λ b. b || turns v c m) (turned-agree (confirmed c n) same) ∙ ap (λ b. turned (holds w (confirmed c n)) m || b) (turns-agree c same)
    turns-agree (held c n) same = ap (λ b. b || turns v c m) (turned-agree (held c n) same) ∙ ap (λ b. turned (holds w (held c n)) m || b) (turns-agree c same)
    turns-agree (risen c) same = ap (λ b. b || turns v c m) (turned-agree (risen c) same) ∙ ap (λ b. turned (holds w (risen c)) m || b) (turns-agree c same)
    turns-agree (latched s r) same =
        ap (λ b. b || turns v r m) (turns-agree s (λ i below. (same i below).0)) ∙ ap (λ b. turns w s m || b) (turns-agree r (λ i below. (same i below).1))

    pub all-turn-agree : (cs : Trees) → ((i : ℕ) → i ≤ m → AgreeOnAll v w i cs) → turns_of v cs m ≡ turns_of w cs m
    all-turn-agree none same = refl
    all-turn-agree (more c cs) same =
        ap (λ b. b || turns_of v cs m) (turns-agree c (λ i below. (same i below).0)) ∙ ap (λ b. turns w c m || b) (all-turn-agree cs (λ i below. (same i below).1))

module _ (w : World) (k : ℕ) where
  -- what didn't move in moment k + 1 is the same in the worlds that stay as they are in k and in k + 1
  kept : {X : Type 0} (f : ℕ → X) (i : ℕ) → f (suc k) ≡ f k → f (min i k) ≡ f (min i (suc k))
  kept f i same = elim (cases_lt k i) [
    | inl later ↦
        let old : min i k ≡ k = omega arith in
        let new : min i (suc k) ≡ suc k = omega arith in
        ap f old ∙ sym same ∙ sym (ap f new)
    | inr earlier ↦ let e : min i k ≡ min i (suc k) = omega arith in ap f e
  ]

  back : suc k - 1 ≡ k
  back = omega arith

  unmoved : (p : ℕ → Bool) → turned p (suc k) ≡ false → p (suc k) ≡ p k
  unmoved p h = differ-not (p (suc k)) (p (suc k - 1)) h ∙ ap p back

  value-stays : (i p : ℕ) → (not (option_eq int_eq (w.values p (suc k)) (w.values p (suc k - 1))) || false) ≡ false → w.values p (min i k) ≡ w.values p (min i (suc k))
  value-stays i p h =
      kept (w.values p) i
      (same-value (w.values p (suc k)) (w.values p (suc k - 1))
      (not-false (option_eq int_eq (w.values p (suc k)) (w.values p (suc k - 1))) ((or_parts (not (option_eq int_eq (w.values p (suc k)) (w.values p (suc k - 1)))) false h).0))
      ∙ ap (w.values p) back)

  mutual
    unfolding AgreeOn operands moved staying

    pub stay-agree : (i : ℕ) (c : Tree) → list_any (moved w (suc k)) (operands c) ≡ false → AgreeOn (staying w k) (staying w (suc k)) i c
    stay-agree i (constant b) h = tt
    stay-agree i (discrete p) h = value-stays i p h
    stay-agree i (valid p) h = value-stays i p h
    stay-agree i (compared p op x) h = value-stays i p h
    stay-agree i (in_phase set) h =
        kept w.phase i
        (eqb-true (w.phase (suc k)) (w.phase (suc k - 1)) (not-false (eqb (w.phase (suc k)) (w.phase (suc k - 1))) ((or_parts (not (eqb (w.phase (suc k)) (w.phase (suc k - 1)))) false h).0))
        ∙ ap w.phase back)
    stay-agree i (alert a) h = kept (w.active a) i (unmoved (w.active a) ((or_parts (turned (w.active a) (suc k)) false h).0))
    stay-agree i (press x) h = kept (w.pressed x) i (unmoved (w.pressed x) ((or_parts (turned (w.pressed x) (suc k)) false h).0))
    stay-agree i (computer n) h = kept (w.up n) i (unmoved (w.up n) ((or_parts (turned (w.up n) (suc k)) false h).0))
    stay-agree i (negation c) h = stay-agree i c h
    stay-agree i (all cs) h = all-stay-agree i cs h
    stay-agree i (any cs) h = all-stay-agree i cs h
    stay-agree i (at_least n cs) h = all-stay-agree i cs h
    stay-agree i (confirmed c n) h = stay-agree i c h
    stay-agree i (held c n) h = stay-agree i c h
    stay-agree i (risen c) h = stay-agree i c h
    stay-agree i (latched s r) h =
        let both = sym (list_any-append (moved w (suc k)) (operands s) (operands r)) ∙ h in (
          stay-agree i s ((or_parts (list_any (moved w (suc k)) (operands s)) (list_any (moved w (suc k)) (operands r)) both).0),
          stay-agree i r ((or_parts (list_any (moved w (suc k)) (operands s)) (list_any (moved w (suc k)) (operands r)) both).1),
        )

    pub all-stay-agree : (i : ℕ) (cs : Trees) → list_any (moved w (suc k)) (operands_of cs) ≡ false → AgreeOnAll (staying w k) (staying w (suc k)) i cs
    all-stay-agree i none h = tt
    all-stay-agree i (more c cs) h =
        let both = sym (list_any-append (moved w (suc k)) (operands c) (operands_of cs)) ∙ h in (
          stay-agree i c ((or_parts (list_any (moved w (suc k)) (operands c)) (list_any (moved w (suc k)) (operands_of cs)) both).0),
          all-stay-agree i cs ((or_parts (list_any (moved w (suc k)) (operands c)) (list_any (moved w (suc k)) (operands_of cs)) both).1),
        )

  -- in moment k + 1 it turns where it would have turned by itself
  turns-by-itself : (c : Tree) → list_any (moved w (suc k)) (operands c) ≡ false → turns w c (suc k) ≡ turns (staying w k) c (suc k)
  turns-by-itself c h =
      sym (turns-agree (staying w (suc k)) w (suc k) c (λ i below. same-agree (staying w (suc k)) w i (staying-same w (suc k) i below) c))
      ∙ sym (turns-agree (staying w k) (staying w (suc k)) (suc k) c (λ i below. stay-agree i c h))

  -- after the first moment, a condition is woken by operands or by its nodes
  later-woken : (c : Tree) → woken w c (suc k) ≡ (list_any (moved w (suc k)) (operands c) || turns w c (suc k))
  later-woken c = let first : eqb (suc k) 0 ≡ false = grind (arith, nat_tests) in ap (λ b. b || (list_any (moved w (suc k)) (operands c) || turns w c (suc k))) first

  pub quiet-woken : (c : Tree) → woken w c (suc k) ≡ false → (list_any (moved w (suc k)) (operands c) || turns w c (suc k)) ≡ false
  quiet-woken c h = sym (later-woken c) ∙ h

  pub due-stays : (c : Tree) (due : ℕ) → suc k < 2 ^ 63 → list_any (moved w (suc k)) (operands c) ≡ false → turns w c (suc k) ≡ false →
      IsDue (staying w k) c k due → IsDue (staying w (suc k)) c (suc k) due
  due-stays c due small unmoved_all rests d =
      let same : (m : ℕ) → turns (staying w k) c m ≡ turns (staying w (suc k)) c m = λ m. turns-agree (staying w k) (staying w (suc k)) m c (λ i below. stay-agree i c unmoved_all) in
      record {
        quiet = λ m later before. sym (same m) ∙ d.quiet m (omega arith) before;
        comes = elim d.comes [
          | inl never_comes ↦ inl never_comes
          | inr (later, early, comes) ↦ elim (cases_lt (suc k) due) [
            | inl after ↦ inr (after, early, sym (same due) ∙ comes)
            | inr now ↦
                let e : due ≡ suc k = omega arith in
                let t : turns (staying w k) c (suc k) ≡ true = ap (turns (staying w k) c) (sym e) ∙ comes in
                absurd (let w : ⊥ = (let clash = sym rests ∙ turns-by-itself c unmoved_all ∙ t in cc) in w)
          ]
        ];
      }

  pub woken_is : (c : Tree) (due : ℕ) → suc k < 2 ^ 63 → IsDue (staying w k) c k due → woken w c (suc k) ≡ (list_any (moved w (suc k)) (operands c) || eqb due (suc k))
  woken_is c due small d = later-woken c ∙ by (list_any (moved w (suc k)) (operands c)) refl where
    by : (some : Bool) → list_any (moved w (suc k)) (operands c) ≡ some → (list_any (moved w (suc k)) (operands c) || turns w c (suc k)) ≡ (list_any (moved w (suc k)) (operands c) || eqb due (suc k))
    by true h = ap (λ b. b || turns w c (suc k)) h ∙ sym (ap (λ b. b || eqb due (suc k)) h)
    by false h =
        ap (λ b. list_any (moved w (suc k)) (operands c) || b)
        (turns-by-itself c h
        ∙ elim (eqb_tells due (suc k)) [
          | inl (is, e) ↦
              elim d.comes [
                | inl never_comes ↦ absurd (let w : ⊥ = omega arith in w)
                | inr (later, early, comes) ↦ ap (turns (staying w k) c) (sym e) ∙ comes ∙ sym is
              ]
          | inr (isnt, other) ↦
              d.quiet (suc k) (omega arith)
              (elim d.comes [
                | inl never_comes ↦ inr never_comes
                | inr (later, early, comes) ↦ inl (elim (cases_lt (suc k) due) [ inl h ↦ h | inr h ↦ absurd (other (let e : due ≡ suc k = omega arith in e)) ])
              ])
              ∙ sym isnt
        ])

-- the laws of a condition that nothing wakes
pub rests_holds : (w : World) (c : Tree) (k : ℕ) → woken w c (suc k) ≡ false → holds w c (suc k) ≡ holds w c k
rests_holds w c k h =
    truth-rests w k c (record {
      operands_rest = (or_parts (list_any (moved w (suc k)) (operands c)) (turns w c (suc k)) (quiet-woken w k c h)).0;
      nodes_rest = (or_parts (list_any (moved w (suc k)) (operands c)) (turns w c (suc k)) (quiet-woken w k c h)).1;
    })

pub rests_stands : (w : World) (c : Tree) (k at : ℕ) (cells : List Cell) → woken w c (suc k) ≡ false → Stand w (suc k) c at cells → Stand w (suc (suc k)) c at cells
rests_stands w c k at cells h =
    stands-on w k c at cells (record {
      operands_rest = (or_parts (list_any (moved w (suc k)) (operands c)) (turns w c (suc k)) (quiet-woken w k c h)).0;
      nodes_rest = (or_parts (list_any (moved w (suc k)) (operands c)) (turns w c (suc k)) (quiet-woken w k c h)).1;
    })

pub rests_due : (w : World) (c : Tree) (k due : ℕ) → suc k < 2 ^ 63 → woken w c (suc k) ≡ false → IsDue (staying w k) c k due → IsDue (staying w (suc k)) c (suc k) due
rests_due w c k due small h =
    due-stays w k c due small ((or_parts (list_any (moved w (suc k)) (operands c)) (turns w c (suc k)) (quiet-woken w k c h)).0)
    ((or_parts (list_any (moved w (suc k)) (operands c)) (turns w c (suc k)) (quiet-woken w k c h)).1)
