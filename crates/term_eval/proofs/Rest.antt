-- A condition at rest: no operand moves and no temporal node turns, so each of its nodes keeps its truth, and the cells stand
-- as they are for one moment more.
use Rattle.std.proofs.Common.{◌≡◌, ℕ, suc, ◌+◌, ◌-◌, Bool, true, false, not, ◌||◌, List, ◌∷◌, Option, Some, None, eqb, refl, sym, ◌∙◌, ap, arith}
use Rattle.std.specs.Prelude.{ℤ, pos, is_some, count_by, nat_le}
use Rattle.std.specs.List.{list_any, list_all}
use Rattle.std.specs.Option.{option_eq}
use Rattle.std.specs.Ordering.{int_eq}
use Rattle.std.proofs.lemmas.Bool.{eqb-true, or_parts}
use Rattle.std.proofs.lemmas.Bool.Decides.{Decides-int_eq}
use Rattle.std.proofs.lemmas.List.Folds.{list_any-append}
use Rattle.ecam_spec.specs.Past.{Signal, previous}
use Rattle.ecam_spec.specs.Book.{Tree, Trees, constant, discrete, valid, compared, in_phase, alert, press, computer, negation, all, any, at_least, confirmed, held, risen, latched, none, more}
use Rattle.ecam_spec.specs.Term.{World, holds, truths, in_set, is_so, stands}
use Rattle.ecam_spec.specs.TermSize.{slots}
use Rattle.term_eval.specs.declared.memory.Cell.{Cell}
use Rattle.term_eval.specs.CellWords.{on_if}
use Rattle.term_eval.specs.CellState.{Stand, StandAll}
use Rattle.term_eval.proofs.Unturned.{stretch-stays, lasted-stays, latch-rests}
use Rattle.term_eval.specs.Woken.{differ, turned, moved, operands, operands_of, turns, turns_of}

pub not-false : (b : Bool) → not b ≡ false → b ≡ true
not-false true h = refl
not-false false h = sym h

pub differ-not : (a b : Bool) → differ a b ≡ false → a ≡ b
differ-not true true h = refl
differ-not true false h = h
differ-not false true h = sym h
differ-not false false h = refl

pub same-value : (a b : Option ℤ) → option_eq int_eq a b ≡ true → a ≡ b
same-value None None h = refl
same-value None (Some y) h = absurd (let w : ⊥ = cc in w)
same-value (Some x) None h = absurd (let w : ⊥ = cc in w)
same-value (Some x) (Some y) h = ap Some ((Decides-int_eq x y).0 h)

module _ (w : World) (k : ℕ) where
  -- the moment before moment k + 1
  back : suc k - 1 ≡ k
  back = omega arith

  pub kept-turned : (p : Signal) → turned p (suc k) ≡ false → p (suc k) ≡ p k
  kept-turned p h = differ-not (p (suc k)) (p (suc k - 1)) h ∙ ap p back

  pub record AtRest (c : Tree) : Type 0 where
    pub operands_rest : list_any (moved w (suc k)) (operands c) ≡ false
    pub nodes_rest : turns w c (suc k) ≡ false

  pub record AllAtRest (cs : Trees) : Type 0 where
    pub operands_rest : list_any (moved w (suc k)) (operands_of cs) ≡ false
    pub nodes_rest : turns_of w cs (suc k) ≡ false

  value-rests : (p : ℕ) → (not (option_eq int_eq (w.values p (suc k)) (w.values p (suc k - 1))) || false) ≡ false → w.values p (suc k) ≡ w.values p k
  value-rests p h =
      same-value (w.values p (suc k)) (w.values p (suc k - 1))
      (not-false (option_eq int_eq (w.values p (suc k)) (w.values p (suc k - 1))) ((or_parts (not (option_eq int_eq (w.values p (suc k)) (w.values p (suc k - 1)))) false h).0))
      ∙ ap (w.values p) back

  pub first-rests : (c : Tree) (cs : Trees) → AllAtRest (more c cs) → AtRest c
  unfolding operands turns
  first-rests c cs r = record {
    operands_rest = (or_parts (list_any (moved w (suc k)) (operands c)) (list_any (moved w (suc k)) (operands_of cs)) (sym (list_any-append (moved w (suc k)) (operands c) (operands_of cs)) ∙ r.operands_rest)).0;
    nodes_rest = (or_parts (turns w c (suc k)) (turns_of w cs (suc k)) r.nodes_rest).0;
  }

  pub others-rest : (c : Tree) (cs : Trees) → AllAtRest (more c cs) → AllAtRest cs
  unfolding operands turns
  others-rest c cs r = record {
    operands_rest = (or_parts (list_any (moved w (suc k)) (operands c)) (list_any (moved w (suc k)) (operands_of cs)) (sym (list_any-append (moved w (suc k)) (operands c) (operands_of cs)) ∙ r.operands_rest)).1;
    nodes_rest = (or_parts (turns w c (suc k)) (turns_of w cs (suc k)) r.nodes_rest).1;
  }

  pub set-rests : (s r : Tree) → AtRest (latched s r) → AtRest s
  unfolding operands turns
  set-rests s r h = record {
    operands_rest = (or_parts (list_any (moved w (suc k)) (operands s)) (list_any (moved w (suc k)) (operands r)) (sym (list_any-append (moved w (suc k)) (operands s) (operands r)) ∙ h.operands_rest)).0;
    nodes_rest = (or_parts (turns w s (suc k)) (turns w r (suc k)) h.nodes_rest).0;
  }

  pub reset-rests : (s r : Tree) → AtRest (latched s r) → AtRest r
  unfolding operands turns
  reset-rests s r h = record {
    operands_rest = (or_parts (list_any (moved w (suc k)) (operands s)) (list_any (moved w (suc k)) (operands r)) (sym (list_any-append (moved w (suc k)) (operands s) (operands r)) ∙ h.operands_rest)).1;
    nodes_rest = (or_parts (turns w s (suc k)) (turns w r (suc k)) h.nodes_rest).1;
  }

  pub below-confirmed : (c : Tree) (n : ℕ) → AtRest (confirmed c n) → AtRest c
  unfolding operands turns
  below-confirmed c n r = record { operands_rest = r.operands_rest; nodes_rest = (or_parts (turned (holds w (confirmed c n)) (suc k)) (turns w c (suc k)) r.nodes_rest).1 }

  pub below-held : (c : Tree) (n : ℕ) → AtRest (held c n) → AtRest c
  unfolding operands turns
  below-held c n r = record { operands_rest = r.operands_rest; nodes_rest = (or_parts (turned (holds w (held c n)) (suc k)) (turns w c (suc k)) r.nodes_rest).1 }

  pub below-risen : (c : Tree) → AtRest (risen c) → AtRest c
  unfolding operands turns
  below-risen c r = record { operands_rest = r.operands_rest; nodes_rest = (or_parts (turned (holds w (risen c)) (suc k)) (turns w c (suc k)) r.nodes_rest).1 }

  mutual
    unfolding holds operands turns moved

    -- it keeps its truth
    pub truth-rests : (c : Tree) → AtRest c → holds w c (suc k) ≡ holds w c k
    truth-rests (constant b) r = refl
    truth-rests (discrete p) r = ap (is_so (int_eq (pos 1))) (value-rests p r.operands_rest)
    truth-rests (valid p) r = ap is_some (value-rests p r.operands_rest)
    truth-rests (compared p op x) r = ap (is_so (λ z. stands op z x)) (value-rests p r.operands_rest)
    truth-rests (in_phase set) r =
        ap (in_set set)
        (eqb-true (w.phase (suc k)) (w.phase (suc k - 1)) (not-false (eqb (w.phase (suc k)) (w.phase (suc k - 1))) ((or_parts (not (eqb (w.phase (suc k)) (w.phase (suc k - 1)))) false r.operands_rest).0))
        ∙ ap w.phase back)
    truth-rests (alert a) r = kept-turned (w.active a) ((or_parts (turned (w.active a) (suc k)) false r.operands_rest).0)
    truth-rests (press x) r = kept-turned (w.pressed x) ((or_parts (turned (w.pressed x) (suc k)) false r.operands_rest).0)
    truth-rests (computer n) r = kept-turned (w.up n) ((or_parts (turned (w.up n) (suc k)) false r.operands_rest).0)
    truth-rests (negation c) r = ap not (truth-rests c (record { operands_rest = r.operands_rest; nodes_rest = r.nodes_rest }))
    truth-rests (all cs) r = ap (list_all (λ b. b)) (truths-rest cs (record { operands_rest = r.operands_rest; nodes_rest = r.nodes_rest }))
    truth-rests (any cs) r = ap (list_any (λ b. b)) (truths-rest cs (record { operands_rest = r.operands_rest; nodes_rest = r.nodes_rest }))
    truth-rests (at_least n cs) r = ap (λ bs. nat_le n (count_by (λ b. b) bs)) (truths-rest cs (record { operands_rest = r.operands_rest; nodes_rest = r.nodes_rest }))
    truth-rests (confirmed c n) r = kept-turned (holds w (confirmed c n)) ((or_parts (turned (holds w (confirmed c n)) (suc k)) (turns w c (suc k)) r.nodes_rest).0)
    truth-rests (held c n) r = kept-turned (holds w (held c n)) ((or_parts (turned (holds w (held c n)) (suc k)) (turns w c (suc k)) r.nodes_rest).0)
    truth-rests (risen c) r = kept-turned (holds w (risen c)) ((or_parts (turned (holds w (risen c)) (suc k)) (turns w c (suc k)) r.nodes_rest).0)
    truth-rests (latched s t) r =
        let set = truth-rests s (set-rests s t r) in
        let reset = truth-rests t (reset-rests s t r) in
        latch-rests (holds w s) (holds w t) k set reset

    pub truths-rest : (cs : Trees) → AllAtRest cs → truths w cs (suc k) ≡ truths w cs k
    truths-rest none r = refl
    truths-rest (more c cs) r =
        ap (λ b. b ∷ truths w cs (suc k)) (truth-rests c (first-rests c cs r)) ∙ ap (λ bs. holds w c k ∷ bs) (truths-rest cs (others-rest c cs r))

  mutual
    unfolding Stand operands turns holds previous

    -- and the cells stand on
    pub stands-on : (c : Tree) (at : ℕ) (cells : List Cell) → AtRest c → Stand w (suc k) c at cells → Stand w (suc (suc k)) c at cells
    stands-on (constant b) at cells r h = h
    stands-on (discrete p) at cells r h = h
    stands-on (valid p) at cells r h = h
    stands-on (compared p op x) at cells r h = h
    stands-on (in_phase set) at cells r h = h
    stands-on (alert a) at cells r h = h
    stands-on (press x) at cells r h = h
    stands-on (computer n) at cells r h = h
    stands-on (negation c) at cells r h = stands-on c at cells (record { operands_rest = r.operands_rest; nodes_rest = r.nodes_rest }) h
    stands-on (all cs) at cells r h = all-stand-on cs at cells (record { operands_rest = r.operands_rest; nodes_rest = r.nodes_rest }) h
    stands-on (any cs) at cells r h = all-stand-on cs at cells (record { operands_rest = r.operands_rest; nodes_rest = r.nodes_rest }) h
    stands-on (at_least n cs) at cells r h = all-stand-on cs at cells (record { operands_rest = r.operands_rest; nodes_rest = r.nodes_rest }) h
    stands-on (confirmed c n) at cells r h =
        let below = below-confirmed c n r in
        (h.0 ∙ sym (stretch-stays (holds w c) k (truth-rests c below)), stands-on c (at + 1) cells below h.1)
    stands-on (held c n) at cells r h =
        let below = below-held c n r in
        (h.0 ∙ sym (lasted-stays (holds w c) k (truth-rests c below)), stands-on c (at + 1) cells below h.1)
    stands-on (risen c) at cells r h =
        let below = below-risen c r in
        (h.0 ∙ sym (ap on_if (truth-rests c below)), stands-on c (at + 1) cells below h.1)
    stands-on (latched s t) at cells r h = (
      h.0 ∙ sym (ap on_if (truth-rests (latched s t) r)),
      stands-on s (at + 1) cells (set-rests s t r) h.1,
      stands-on t (at + 1 + slots s) cells (reset-rests s t r) h.2,
    )

    pub all-stand-on : (cs : Trees) (at : ℕ) (cells : List Cell) → AllAtRest cs → StandAll w (suc k) cs at cells → StandAll w (suc (suc k)) cs at cells
    all-stand-on none at cells r h = h
    all-stand-on (more c cs) at cells r h = (
      stands-on c at cells (first-rests c cs r) h.0,
      all-stand-on cs (at + slots c) cells (others-rest c cs r) h.1,
    )
