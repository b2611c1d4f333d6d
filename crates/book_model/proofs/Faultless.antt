-- What is so of a draft without a fault: none of its inputs of the phase asks for a phase or an alert, and each alert
-- asks only for those before it.
use Rattle.std.proofs.Common.{◌≡◌, ℕ, zero, suc, ◌+◌, Bool, true, false, List, [], ◌∷◌, slice_get, Option, Some, None, refl, ap, ◌∙◌, subst, arith}
use Rattle.std.specs.Option.{option_or}
use Rattle.std.specs.List.{list_any}
use Rattle.std.proofs.lemmas.Bool.{or_parts}
use Rattle.ecam_spec.specs.declared.kinds.Section.{Section}
use Rattle.ecam_spec.specs.Book.{Tree}
use Rattle.ecam_spec.specs.BookTerms.{phase_terms}
use Rattle.ecam_spec.specs.Draft.{DraftAlert, Draft}
use Rattle.ecam_spec.specs.Faults.{first_from, fault_at, whole}
use Rattle.ecam_spec.specs.DraftFaults.{has_atom, asks_phase_or_alert, asks_alert_from, draft_fault}

first-none : {X : Type 0} (o p : Option X) → option_or o p ≡ None → o ≡ None
first-none None p is = refl
first-none (Some x) p is = absurd (let w : ⊥ = cc in w)

rest-none : {X : Type 0} (o p : Option X) → option_or o p ≡ None → p ≡ None
rest-none None p is = is
rest-none (Some x) p is = absurd (let w : ⊥ = cc in w)

no-item : (code : ℕ) (section : Section) (o : Option ℕ) → fault_at code section o ≡ None → o ≡ None
no-item code section None is = refl
no-item code section (Some i) is = absurd (let w : ⊥ = cc in w)

not-whole : (b : Bool) → whole b ≡ None → b ≡ false
not-whole true is = absurd (let w : ⊥ = cc in w)
not-whole false is = refl

not-here : (b : Bool) (n : ℕ) (o : Option ℕ) → ◌≡◌ {A = Option ℕ} (elim b [ true ↦ Some n | false ↦ o ]) None → (b ≡ false) × (o ≡ None)
not-here true n o is = absurd (let w : ⊥ = cc in w)
not-here false n o is = (refl, is)

-- no item is so, where the first that is so isn't there
none-so : {X : Type 0} (is_so : ℕ → X → Bool) (n : ℕ) (xs : List X) → first_from n is_so xs ≡ None → (i k : ℕ) (x : X) → k ≡ n + i → slice_get xs i ≡ Some x → is_so k x ≡ false
none-so is_so n [] is i k x at there = absurd (let w : ⊥ = cc in w)
none-so is_so n (y ∷ xs) is zero k x at there =
    let same : y ≡ x = cc in
    let here : n ≡ k = omega arith in
    ap (λ m. is_so m x) (let back : k ≡ n = omega arith in back) ∙ subst (λ z. is_so n z ≡ false) same (not-here (is_so n y) (suc n) (first_from (suc n) is_so xs) is).0
none-so is_so n (y ∷ xs) is (suc i) k x at there =
    none-so is_so (suc n) xs (not-here (is_so n y) (suc n) (first_from (suc n) is_so xs) is).1 i k x (omega arith) there

-- no condition of a list is so
none-any : (test : Tree → Bool) (cs : List Tree) → list_any test cs ≡ false → (j : ℕ) (c : Tree) → slice_get cs j ≡ Some c → test c ≡ false
none-any test [] is j c there = absurd (let w : ⊥ = cc in w)
none-any test (x ∷ cs) is zero c there = let same : x ≡ c = cc in subst (λ z. test z ≡ false) same ((or_parts (test x) (list_any test cs) is).0)
none-any test (x ∷ cs) is (suc j) c there = none-any test cs ((or_parts (test x) (list_any test cs) is).1) j c there

module _ (d : Draft) (faultless : draft_fault d ≡ None) where
  pub inputs-ask : (j : ℕ) (c : Tree) → slice_get (phase_terms d.phase) j ≡ Some c → has_atom asks_phase_or_alert c ≡ false
  unfolding draft_fault
  inputs-ask = none-any (has_atom asks_phase_or_alert) (phase_terms d.phase) (not-whole _ (no-item _ _ _ (first-none _ _ faultless)))

  pub alerts-ask : (a : ℕ) (x : DraftAlert) → slice_get d.alerts a ≡ Some x → has_atom (asks_alert_from a) x.when ≡ false
  unfolding draft_fault
  alerts-ask a x there =
      none-so (λ i (y : DraftAlert). has_atom (asks_alert_from i) y.when) 0 d.alerts
      (no-item _ _ _ (first-none _ _ (rest-none _ _ faultless))) a a x (omega arith) there
