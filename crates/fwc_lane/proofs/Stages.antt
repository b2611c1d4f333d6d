-- What moved of what a moment knows of its world: of the phase, and of one alert after another.
use Rattle.std.proofs.Common.{◌≡◌, ◌≢◌, ℕ, suc, ◌+◌, ◌-◌, ◌<◌, ◌≤◌, Bool, false, not, ◌&&◌, ◌||◌, eqb, length, get_or, slice_get, Some, refl, sym, ap, ◌∙◌, inl, inr, arith}
use Rattle.std.specs.List.{list_any}
use Rattle.std.proofs.lemmas.Bool.{cases_eq, cases_lt, eq-eqb, ne_eqb}
use Rattle.std.proofs.lemmas.List.{get_or_past}
use Rattle.ecam_spec.specs.Keys.{key_number}
use Rattle.ecam_spec.specs.Past.{Signal}
use Rattle.ecam_spec.specs.Book.{Book}
use Rattle.ecam_spec.specs.Term.{World}
use Rattle.ecam_spec.specs.TermSize.{Placed}
use Rattle.ecam_spec.specs.History.{Moment}
use Rattle.ecam_spec.specs.Situation.{phase_in, active_in, known_below, world}
use Rattle.ecam_spec.proofs.WorldLaws.{known-at, known-length}
use Rattle.book_model.specs.declared.draft.Draft.{Draft}
use Rattle.book_model.specs.Sealed.{the_book, IsSealed}
use Rattle.book_model.specs.Conditions.{places}
use Rattle.term_eval.specs.Woken.{Operand, operands, differ, turned, moved}
use Rattle.term_eval.specs.Woken.Operand.{value, phase, activity, key, health}
use Rattle.watch_lists.specs.Naming.{IsOperand, operand_number}
use Rattle.watch_lists.proofs.Scope.{any_same}
use Rattle.fwc_lane.specs.Waking.{sizes_in}
use Rattle.fwc_lane.specs.Conditions.{TellsMoved, known_world}
use Rattle.std.proofs.Math.Bool.{and-false, and-true, or-false}
use Rattle.fwc_lane.proofs.Askers.{asks-operand}
use Rattle.fwc_lane.proofs.NamesWithin.{names-within}

-- ---- what moved of what is known

module _ (b : Book) (m : ℕ → Moment) where
  abbrev params : ℕ
  params = length b.parameters

  abbrev alerts : ℕ
  alerts = length b.alerts

  off-or : (f other : Bool) (n o : ℕ) → n ≢ o → f ≡ (f || (other && eqb n o))
  off-or f other n o ne = sym (ap (λ c. f || (other && c)) (ne_eqb n o ne) ∙ ap (λ c. f || c) (and-false other) ∙ or-false f)

  -- the phase is known
  pub phase-moves : (k h phase-now phase-was : ℕ) (other : Bool) → k ≡ suc h → other ≡ not (eqb phase-now phase-was) → phase-now ≡ phase_in b m k → phase-was ≡ phase_in b m h
      → (x : Operand) → IsOperand (sizes_in b) x
      → moved (known_world b m 1) k x ≡ (moved (known_world b m 0) k x || (other && eqb (operand_number (sizes_in b) x) (params + alerts)))
  unfolding moved known_below
  phase-moves k h now was other e is now-is was-is (value p) at = off-or _ other p (params + alerts) (λ e. absurd (omega (arith, at, e)))
  phase-moves k h now was other e is now-is was-is phase at =
      let back : k - 1 ≡ h = omega (arith, e) in
      sym (ap (λ c. other && c) (eq-eqb (params + alerts) (params + alerts) refl) ∙ and-true other ∙ is
      ∙ ap (λ n. not (eqb n was)) now-is ∙ ap (λ n. not (eqb (phase_in b m k) n)) (was-is ∙ ap (phase_in b m) (sym back)))
  phase-moves k h now was other e is now-is was-is (activity a) at = off-or false other (params + a) (params + alerts) (λ e. absurd (omega (arith, at, e)))
  phase-moves k h now was other e is now-is was-is (key x) at = off-or _ other (params + alerts + 1 + key_number x) (params + alerts) (λ e. absurd (omega (arith, e)))
  phase-moves k h now was other e is now-is was-is (health c) at = off-or _ other (params + alerts + 25 + c) (params + alerts) (λ e. absurd (omega (arith, e)))

  -- one alert more is known
  beyond : (n i : ℕ) → n ≤ i → get_or (known_below b m n) i (λ k. false) ≡ (λ k. false)
  beyond n i le = get_or_past (known_below b m n) i (λ k. false) (omega (arith, known-length b m n))

  pub alert-moves : (k h a : ℕ) (other now was : Bool) → k ≡ suc h → other ≡ differ now was → now ≡ active_in b m a k → was ≡ active_in b m a h → a < alerts
      → (x : Operand) → IsOperand (sizes_in b) x
      → moved (known_world b m (suc (suc a))) k x ≡ (moved (known_world b m (suc a)) k x || (other && eqb (operand_number (sizes_in b) x) (params + a)))
  unfolding moved
  alert-moves k h a other now was at-k is now-is was-is lt (value p) at = off-or _ other p (params + a) (λ e. absurd (omega (arith, at, e)))
  alert-moves k h a other now was at-k is now-is was-is lt phase at = off-or _ other (params + alerts) (params + a) (λ e. absurd (omega (arith, lt, e)))
  alert-moves k h a other now was at-k is now-is was-is lt (key x) at = off-or _ other (params + alerts + 1 + key_number x) (params + a) (λ e. absurd (omega (arith, lt, e)))
  alert-moves k h a other now was at-k is now-is was-is lt (health c) at = off-or _ other (params + alerts + 25 + c) (params + a) (λ e. absurd (omega (arith, lt, e)))
  alert-moves k h a other now was at-k is now-is was-is lt (activity i) at =
      let off : Signal = λ k. false in
      let back : k - 1 ≡ h = omega (arith, at-k) in
      elim (cases_lt i a) [
        | inl low ↦
            ap (λ (p : Signal). turned p k) (known-at b m (suc a) i off (omega arith) ∙ sym (known-at b m a i off low))
            ∙ off-or _ other (params + i) (params + a) (λ e. absurd (omega (arith, low, e)))
        | inr high ↦ elim (cases_eq i a) [
          | inl e ↦
              ap (λ (p : Signal). turned p k) (known-at b m (suc a) i off (omega (arith, e)) ∙ ap (active_in b m) e)
              ∙ ap (λ n. differ (active_in b m a k) (active_in b m a n)) back
              ∙ sym (ap (λ (p : Signal). turned p k || (other && eqb (params + i) (params + a))) (beyond a i high)
              ∙ ap (λ c. other && c) (eq-eqb (params + i) (params + a) (ap (λ n. params + n) e)) ∙ and-true other ∙ is
              ∙ ap (λ c. differ c was) now-is ∙ ap (λ c. differ (active_in b m a k) c) was-is)
          | inr ne ↦
              ap (λ (p : Signal). turned p k) (beyond (suc a) i (omega (arith, high, ne)) ∙ sym (beyond a i high))
              ∙ off-or _ other (params + i) (params + a) (λ e. ne (omega (arith, e)))
        ]
      ]

  -- all are known
  pub all-move : (k : ℕ) (x : Operand) → IsOperand (sizes_in b) x → moved (known_world b m (suc alerts)) k x ≡ moved (world b m) k x
  unfolding moved world
  all-move k (value p) at = refl
  all-move k phase at = refl
  all-move k (key x) at = refl
  all-move k (health c) at = refl
  all-move k (activity i) at = ap (λ (p : Signal). turned p k) (known-at b m alerts i (λ j. false) at)

-- ---- what is known of a condition's world

-- a line or a memo, for which all is known
pub rest-tells : (d : Draft) (sealed : IsSealed d) (m : ℕ → Moment) (k j : ℕ) (p : Placed) → slice_get (places (the_book d)) j ≡ Some p
    → TellsMoved (moved (known_world (the_book d) m (suc (length (the_book d).alerts))) k) (world (the_book d) m) k p
rest-tells d sealed m k j p is =
    let b = the_book d in
    record {
      any = any_same (sizes_in b) (moved (known_world b m (suc (length b.alerts))) k) (moved (world b m) k) (all-move b m k) p.tree (names-within d sealed j p is);
      each = λ n x asks. all-move b m k x (asks-operand (sizes_in b) p.tree (names-within d sealed j p is) n x asks);
    }

-- what is known of a condition's world is all that it has
pub same-tells : (v w : World) (k : ℕ) (p : Placed) → w ≡ v → TellsMoved (moved v k) w k p
same-tells v w k p same = record {
  any = ap (λ u. list_any (moved u k) (operands p.tree)) (sym same);
  each = λ n x asks. ap (λ u. moved u k x) (sym same);
}
