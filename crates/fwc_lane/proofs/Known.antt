-- What a moment knows of its world grows: the phase, and one alert after another. Those that were stepped before ask for neither, and
-- in the worlds of the others each reads as it is known.
use Rattle.std.proofs.Common.{◌≡◌, ◌≢◌, ℕ, zero, suc, ◌+◌, ◌-◌, ◌<◌, ◌≤◌, Bool, true, false, not, ◌&&◌, ◌||◌, eqb, length, slice_get, Some, refl, sym, ap, subst, ◌∙◌, inl, inr, arith}
use Rattle.std.specs.List.{list_any}
use Rattle.std.proofs.lemmas.Bool.{cases_lt, eqb-true, ne_eqb, and_parts, or_parts}
use Rattle.std.proofs.lemmas.List.Folds.{list_any-append}
use Rattle.std.proofs.Math.Bool.{and-false, or-false}
use Rattle.ecam_spec.specs.Past.{Signal}
use Rattle.ecam_spec.specs.Book.{Book, Tree, Trees, constant, discrete, valid, compared, in_phase, alert, press, computer, negation, all, any, at_least, confirmed, held, risen, latched, none, more}
use Rattle.ecam_spec.specs.DraftFaults.{has_atom, have_atom, asks_phase_or_alert}
use Rattle.ecam_spec.specs.Keys.{key_number}
use Rattle.ecam_spec.specs.Term.{World}
use Rattle.ecam_spec.specs.TermNames.{IsWithin, AreWithin}
use Rattle.ecam_spec.specs.TermSize.{Placed}
use Rattle.ecam_spec.specs.History.{Moment}
use Rattle.ecam_spec.specs.Situation.{phase_in, active_in, world}
use Rattle.ecam_spec.proofs.WorldLaws.{known-at}
use Rattle.ecam_kinds.specs.declared.phase.Phase.{Phase}
use Rattle.book_model.specs.declared.draft.Draft.{Draft}
use Rattle.book_model.specs.View.{placed_of, tree_in}
use Rattle.book_model.specs.Slots.{phase_places, phase_trees}
use Rattle.book_model.specs.Sealed.{the_book, IsSealed}
use Rattle.book_model.specs.Conditions.{places, alerts_from, lines_from, world_of}
use Rattle.book_model.proofs.BookLists.{many-parameters, many-alerts}
use Rattle.book_model.proofs.ConditionPlaces.{phase-place, own-place}
use Rattle.book_model.proofs.ConditionNames.{phase-asks, phase-names, own-names}
use Rattle.book_model.proofs.ConditionWorlds.{own-world, rest-world}
use Rattle.term_eval.specs.Reading.{Reads}
use Rattle.term_eval.specs.declared.reading.Reading.TheVariants.{InPhase, Flag}
use Rattle.term_eval.specs.Woken.{Operand, operands, operands_of, differ, moved}
use Rattle.term_eval.specs.Woken.Operand.{value, phase, activity, key, health}
use Rattle.watch_lists.specs.declared.number.Sizes.{Sizes}
use Rattle.watch_lists.specs.Naming.{IsOperand, operand_number}
use Rattle.watch_lists.proofs.Scope.{any_same}
use Rattle.fwc_lane.specs.declared.terms.Terms.{Terms}
use Rattle.fwc_lane.specs.Waking.{sizes_in, HasWoken}
use Rattle.fwc_lane.specs.Conditions.{BookHalf, known_world}
use Rattle.fwc_lane.proofs.FlagSteps.{with-item}
use Rattle.fwc_lane.proofs.Hitting.{any-none}
use Rattle.fwc_lane.proofs.MoreKnown.{half-more}
use Rattle.fwc_lane.proofs.NamesWithin.{names-within}
use Rattle.fwc_lane.proofs.Stages.{phase-moves, alert-moves}

-- one operand that is another than it was passes no test by another's number
other-off : (other : Bool) (n o : ℕ) → n ≢ o → (other && eqb n o) ≡ false
other-off other n o ne = ap (λ c. other && c) (ne_eqb n o ne) ∙ and-false other

-- ---- a condition that asks for no phase and no alert names no phase

module _ (n : Sizes) (other : Bool) where
  abbrev asks : Operand → Bool
  asks x = other && eqb (operand_number n x) (n.params + n.alerts)

  one : (x : Operand) → operand_number n x ≢ n.params + n.alerts → (asks x || false) ≡ false
  one x ne = or-false (asks x) ∙ other-off other (operand_number n x) (n.params + n.alerts) ne

  both : (a b : Bool) → a ≡ false → b ≡ false → (a || b) ≡ false
  both a b first second = ap (λ c. c || b) first ∙ second

  mutual
    unfolding operands IsWithin has_atom

    pub no-phase : (c : Tree) → IsWithin n.params n.alerts c → has_atom asks_phase_or_alert c ≡ false → list_any asks (operands c) ≡ false
    no-phase (constant b) within free = refl
    no-phase (discrete p) within free = one (value p) (λ e. absurd (omega (arith, within, e)))
    no-phase (valid p) within free = one (value p) (λ e. absurd (omega (arith, within, e)))
    no-phase (compared p op x) within free = one (value p) (λ e. absurd (omega (arith, within, e)))
    no-phase (in_phase set) within free = absurd (let w : ⊥ = (let clash : true ≡ false = free in cc) in w)
    no-phase (alert a) within free = absurd (let w : ⊥ = (let clash : true ≡ false = free in cc) in w)
    no-phase (press x) within free = one (key x) (λ e. absurd (omega (arith, e)))
    no-phase (computer m) within free = one (health m) (λ e. absurd (omega (arith, e)))
    no-phase (negation c) within free = no-phase c within free
    no-phase (all cs) within free = no-phases cs within free
    no-phase (any cs) within free = no-phases cs within free
    no-phase (at_least m cs) within free = no-phases cs within free
    no-phase (confirmed c m) within free = no-phase c within free
    no-phase (held c m) within free = no-phase c within free
    no-phase (risen c) within free = no-phase c within free
    no-phase (latched s r) within free =
        let parts = or_parts (has_atom asks_phase_or_alert s) (has_atom asks_phase_or_alert r) free in
        list_any-append asks (operands s) (operands r) ∙ both _ _ (no-phase s within.0 parts.0) (no-phase r within.1 parts.1)

    no-phases : (cs : Trees) → AreWithin n.params n.alerts cs → have_atom asks_phase_or_alert cs ≡ false → list_any asks (operands_of cs) ≡ false
    no-phases none within free = refl
    no-phases (more c cs) within free =
        let parts = or_parts (has_atom asks_phase_or_alert c) (have_atom asks_phase_or_alert cs) free in
        list_any-append asks (operands c) (operands_of cs) ∙ both _ _ (no-phase c within.0 parts.0) (no-phases cs within.1 parts.1)

-- ---- what the conditions name that are stepped first

module _ (d : Draft) (sealed : IsSealed d) where
  -- an input of the phase
  record IsInput (c : Tree) : Type 0 where
    free : has_atom asks_phase_or_alert c ≡ false
    within : IsWithin (length (the_book d).parameters) 0 c

  input-at : (j : ℕ) (t p : Placed) → slice_get (phase_places d.phase) j ≡ Some t → slice_get (phase_trees d.phase) j ≡ Some t.tree → slice_get (places (the_book d)) j ≡ Some p → IsInput p.tree
  input-at j t p place tree is =
      let same : t ≡ p = let both : Some t ≡ Some p = sym (phase-place d sealed j t place) ∙ is in cc in
      subst (λ (q : Placed). IsInput q.tree) same record {
        free = phase-asks d sealed j t.tree tree;
        within = subst (λ n. IsWithin n 0 t.tree) (sym (many-parameters d)) (phase-names d sealed j t.tree tree);
      }

  is-input : (j : ℕ) (p : Placed) → j < alerts_from → slice_get (places (the_book d)) j ≡ Some p → IsInput p.tree
  is-input zero p lt is = input-at 0 (placed_of d.phase.gnd) p refl refl is
  is-input (suc zero) p lt is = input-at 1 (placed_of d.phase.run) p refl refl is
  is-input (suc (suc zero)) p lt is = input-at 2 (placed_of d.phase.tp) p refl refl is
  is-input (suc (suc (suc zero))) p lt is = input-at 3 (placed_of d.phase.fast) p refl refl is
  is-input (suc (suc (suc (suc zero)))) p lt is = input-at 4 (placed_of d.phase.high) p refl refl is
  is-input (suc (suc (suc (suc (suc zero))))) p lt is = input-at 5 (placed_of d.phase.low) p refl refl is
  is-input (suc (suc (suc (suc (suc (suc j)))))) p lt is = absurd (omega (arith, lt))

  -- an alert's own condition names alerts before it
  own-within : (j a : ℕ) (p : Placed) → j ≡ alerts_from + a → a < length d.alerts.items → slice_get (places (the_book d)) j ≡ Some p
      → IsWithin (length (the_book d).parameters) a p.tree
  own-within j a p at lt is = with-item d.alerts.items a lt (λ x here.
      let same : placed_of x.when ≡ p = let both : Some (placed_of x.when) ≡ Some p = sym (own-place d sealed d.alerts.items a x refl lt here) ∙ ap (slice_get (places (the_book d))) (sym at) ∙ is in cc in
      subst (λ (q : Placed). IsWithin (length (the_book d).parameters) a q.tree) same
      (subst (λ n. IsWithin n a (tree_in x.when)) (sym (many-parameters d)) (own-names d sealed d.alerts.items a x refl lt here)))

  -- up to an alert's own condition none names it
  early : (a j : ℕ) (p : Placed) → a < length (the_book d).alerts → j < alerts_from + suc a → slice_get (places (the_book d)) j ≡ Some p
      → (i : ℕ) × (i ≤ a) × IsWithin (length (the_book d).parameters) i p.tree
  early a j p lt below is = elim (cases_lt j alerts_from) [
    | inl input ↦ (0, omega arith, (is-input j p input is).within)
    | inr own ↦ (j - alerts_from, omega (arith, below, own), own-within j (j - alerts_from) p (omega (arith, own)) (omega (arith, below, own, lt, many-alerts d)) is)
  ]

  names-no : (other : Bool) (a i : ℕ) (c : Tree) → a < length (the_book d).alerts → i ≤ a → IsWithin (length (the_book d).parameters) i c
      → list_any (λ x. other && eqb (operand_number (sizes_in (the_book d)) x) (length (the_book d).parameters + a)) (operands c) ≡ false
  names-no other a i c lt le within =
      let f : Operand → Bool = λ x. other && eqb (operand_number (sizes_in (the_book d)) x) (length (the_book d).parameters + a) in
      any_same (record { params = length (the_book d).parameters; alerts = i }) f (λ x. false) by c within ∙ any-none (λ (x : Operand). false) (λ x. refl) (operands c) where
        by : (x : Operand) → IsOperand (record { params = length (the_book d).parameters; alerts = i }) x
            → (other && eqb (operand_number (sizes_in (the_book d)) x) (length (the_book d).parameters + a)) ≡ false
        by (value p) at = other-off other p (length (the_book d).parameters + a) (λ e. absurd (omega (arith, at, e)))
        by phase at = other-off other (length (the_book d).parameters + length (the_book d).alerts) (length (the_book d).parameters + a) (λ e. absurd (omega (arith, lt, e)))
        by (activity j) at = other-off other (length (the_book d).parameters + j) (length (the_book d).parameters + a) (λ e. absurd (omega (arith, at, le, e)))
        by (key x) at =
            other-off other (length (the_book d).parameters + length (the_book d).alerts + 1 + key_number x) (length (the_book d).parameters + a) (λ e. absurd (omega (arith, lt, e)))
        by (health m) at =
            other-off other (length (the_book d).parameters + length (the_book d).alerts + 25 + m) (length (the_book d).parameters + a) (λ e. absurd (omega (arith, lt, e)))

-- ---- what the worlds of the others have

module _ (b : Book) (m : ℕ → Moment) where
  phase-there : (k j : ℕ) → alerts_from ≤ j → (world_of b m j).phase k ≡ phase_in b m k
  unfolding world
  phase-there k j le = elim (cases_lt j (lines_from b)) [
    | inl own ↦
        let e : alerts_from + (j - alerts_from) ≡ j = omega arith in
        ap (λ (w : World). w.phase k) (ap (world_of b m) (sym e) ∙ own-world b m (j - alerts_from) (omega (arith, own, le)))
    | inr rest ↦ ap (λ (w : World). w.phase k) (rest-world b m j rest)
  ]

  active-there : (k a j : ℕ) → alerts_from + suc a ≤ j → (world_of b m j).active a k ≡ active_in b m a k
  unfolding world
  active-there k a j le = elim (cases_lt j (lines_from b)) [
    | inl own ↦
        let e : alerts_from + (j - alerts_from) ≡ j = omega arith in
        ap (λ (w : World). w.active a k) (ap (world_of b m) (sym e) ∙ own-world b m (j - alerts_from) (omega (arith, own, le)))
        ∙ ap (λ (p : Signal). p k) (known-at b m (j - alerts_from) a (λ n. false) (omega (arith, le)))
    | inr rest ↦ ap (λ (w : World). w.active a k) (rest-world b m j rest)
  ]

-- ---- the phase is known

module _ (d : Draft) (sealed : IsSealed d) (m : ℕ → Moment) (k visited : ℕ) (t new : Terms) where
  module _ (other : Bool) (now : Phase) (was : ℕ) (is : now.number ≡ phase_in (the_book d) m k) where
    reads-phase : (j : ℕ) (x : Operand) → alerts_from ≤ j → IsOperand (sizes_in (the_book d)) x
        → (other && eqb (operand_number (sizes_in (the_book d)) x) (length (the_book d).parameters + length (the_book d).alerts)) ≡ true → Reads (world_of (the_book d) m j) k x (InPhase now)
    reads-phase j (value p) le at on = absurd (let w : ⊥ = omega (arith, at, eqb-true _ _ ((and_parts other _ on).1)) in w)
    reads-phase j phase le at on = ap (λ n. InPhase (record { number = n })) (is ∙ sym (phase-there (the_book d) m k j le))
    reads-phase j (activity a) le at on = absurd (let w : ⊥ = omega (arith, at, eqb-true _ _ ((and_parts other _ on).1)) in w)
    reads-phase j (key x) le at on = absurd (let w : ⊥ = omega (arith, eqb-true _ _ ((and_parts other _ on).1)) in w)
    reads-phase j (health c) le at on = absurd (let w : ⊥ = omega (arith, eqb-true _ _ ((and_parts other _ on).1)) in w)

    pub phase-known : HasWoken (the_book d) (λ o. other && eqb o (length (the_book d).parameters + length (the_book d).alerts)) (λ o. InPhase now) t new
        → other ≡ not (eqb now.number was) → ((h : ℕ) → k ≡ suc h → was ≡ phase_in (the_book d) m h)
        → BookHalf (the_book d) m k alerts_from 0 visited t → BookHalf (the_book d) m k alerts_from 1 visited new
    phase-known wakes turned before half =
        let b = the_book d in
        half-more d sealed (world_of b m) (moved (known_world b m 0) k) (moved (known_world b m 1) k) (λ o. other && eqb o (length b.parameters + length b.alerts)) (λ o. InPhase now)
        k alerts_from visited t new wakes
        (λ h e x at. phase-moves b m k h now.number was other e turned is (before h e) x at.within)
        (λ h e j p le place n x asks at on. reads-phase j x le at.within on)
        (λ j p lt place. no-phase (sizes_in b) other p.tree (names-within d sealed j p place) (is-input d sealed j p lt place).free)
        half

  -- ---- one alert more is known

  module _ (a : ℕ) (there : a < length (the_book d).alerts) (other now was : Bool) (is : now ≡ active_in (the_book d) m a k) where
    reads-alert : (j : ℕ) (x : Operand) → alerts_from + suc a ≤ j → IsOperand (sizes_in (the_book d)) x
        → (other && eqb (operand_number (sizes_in (the_book d)) x) (length (the_book d).parameters + a)) ≡ true → Reads (world_of (the_book d) m j) k x (Flag now)
    reads-alert j (value p) le at on = absurd (let w : ⊥ = omega (arith, at, eqb-true _ _ ((and_parts other _ on).1)) in w)
    reads-alert j phase le at on = absurd (let w : ⊥ = omega (arith, there, eqb-true _ _ ((and_parts other _ on).1)) in w)
    reads-alert j (activity i) le at on =
        let e : i ≡ a = omega (arith, eqb-true _ _ ((and_parts other _ on).1)) in
        ap Flag (is ∙ sym (active-there (the_book d) m k a j le) ∙ ap (λ n. (world_of (the_book d) m j).active n k) (sym e))
    reads-alert j (key x) le at on = absurd (let w : ⊥ = omega (arith, there, eqb-true _ _ ((and_parts other _ on).1)) in w)
    reads-alert j (health c) le at on = absurd (let w : ⊥ = omega (arith, there, eqb-true _ _ ((and_parts other _ on).1)) in w)

    pub alert-known : HasWoken (the_book d) (λ o. other && eqb o (length (the_book d).parameters + a)) (λ o. Flag now) t new
        → other ≡ differ now was → ((h : ℕ) → k ≡ suc h → was ≡ active_in (the_book d) m a h)
        → BookHalf (the_book d) m k (alerts_from + suc a) (suc a) visited t → BookHalf (the_book d) m k (alerts_from + suc a) (suc (suc a)) visited new
    alert-known wakes turned before half =
        let b = the_book d in
        half-more d sealed (world_of b m) (moved (known_world b m (suc a)) k) (moved (known_world b m (suc (suc a))) k) (λ o. other && eqb o (length b.parameters + a)) (λ o. Flag now)
        k (alerts_from + suc a) visited t new wakes
        (λ h e x at. alert-moves b m k h a other now was e turned is (before h e) there x at.within)
        (λ h e j p le place n x asks at on. reads-alert j x le at.within on)
        (λ j p lt place.
        let found = early d sealed a j p there lt place in
        names-no d sealed other a found.0 p.tree there found.1 found.2)
        half
