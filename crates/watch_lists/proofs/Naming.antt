-- What the conditions of a sealed book name has a number.
use Rattle.std.proofs.Common.{◌≡◌, ℕ, ◌+◌, ◌^◌, ◌<◌, ◌≤◌, map, length, slice_get, Some, sym, ap, subst, ◌∙◌, arith}
use Rattle.std.proofs.lemmas.List.{length-map}
use Rattle.ecam_spec.specs.Book.{Tree}
use Rattle.ecam_spec.specs.BookTerms.{lines_of}
use Rattle.ecam_spec.specs.KeepsLimits.{IsSoundPhase}
use Rattle.ecam_spec.specs.TermNames.{IsWithin}
use Rattle.book_model.specs.View.{tree_in, alert_of, parameter_of, draft_of, phase_of}
use Rattle.book_model.specs.Sealed.{the_book, IsSealed}
use Rattle.book_model.specs.declared.draft.PhaseTerms.{PhaseTerms}
use Rattle.book_model.specs.declared.draft.Draft.{Draft}
use Rattle.ecam_spec.specs.TermSize.{Placed}
use Rattle.book_model.specs.Slots.{phase_places}
use Rattle.book_model.specs.Conditions.{places}
use Rattle.book_model.proofs.ConditionPlaces.{phase-place}
use Rattle.book_model.proofs.BookLimits.{sizes}
use Rattle.book_model.proofs.BookLines.{few-lines-in-all}
use Rattle.watch_lists.specs.declared.number.Sizes.{Sizes}
use Rattle.watch_lists.specs.Naming.{sizes_of}

module _ (d : Draft) (sealed : IsSealed d) (n : Sizes) (is : n ≡ sizes_of d) where
  pub few-operands : n.params + n.alerts < 2 ^ 32
  few-operands = subst (λ (s : Sizes). s.params + s.alerts < 2 ^ 32) (sym is) (omega (arith, (sizes d sealed).params, (sizes d sealed).alerts))

  pub few-alerts : n.alerts ≤ 2048
  few-alerts = subst (λ (s : Sizes). s.alerts ≤ 2048) (sym is) ((sizes d sealed).alerts)

  pub own-within : (c : Tree) → IsWithin (length d.params.items) (length d.alerts.items) c → IsWithin n.params n.alerts c
  own-within c = subst (λ (s : Sizes). IsWithin s.params s.alerts c) (sym is)

  phase-sound : IsSoundPhase (length d.params.items) (length d.alerts.items) (phase_of d.phase)
  unfolding draft_of
  phase-sound =
      subst (λ p. IsSoundPhase p (length d.alerts.items) (phase_of d.phase)) (length-map d.params.items parameter_of)
      (subst (λ a. IsSoundPhase (length (map parameter_of d.params.items)) a (phase_of d.phase)) (length-map d.alerts.items alert_of) sealed.sound.phase)

  -- the six inputs of the phase
  pub record InputsWithin (p : PhaseTerms) : Type 0 where
    pub gnd : IsWithin n.params n.alerts (tree_in p.gnd)
    pub run : IsWithin n.params n.alerts (tree_in p.run)
    pub tp : IsWithin n.params n.alerts (tree_in p.tp)
    pub fast : IsWithin n.params n.alerts (tree_in p.fast)
    pub high : IsWithin n.params n.alerts (tree_in p.high)
    pub low : IsWithin n.params n.alerts (tree_in p.low)

  pub inputs-within : (p : PhaseTerms) → p ≡ d.phase → InputsWithin p
  inputs-within p same =
      let sound : IsSoundPhase (length d.params.items) (length d.alerts.items) (phase_of p) = subst (λ q. IsSoundPhase (length d.params.items) (length d.alerts.items) (phase_of q)) (sym same) phase-sound in
      record {
        gnd = own-within (tree_in p.gnd) sound.gnd.within;
        run = own-within (tree_in p.run) sound.run.within;
        tp = own-within (tree_in p.tp) sound.tp.within;
        fast = own-within (tree_in p.fast) sound.fast.within;
        high = own-within (tree_in p.high) sound.high.within;
        low = own-within (tree_in p.low) sound.low.within;
      }

pub input-place : (d : Draft) → IsSealed d → (p : PhaseTerms) → p ≡ d.phase → (i : ℕ) (t : Placed) → slice_get (phase_places p) i ≡ Some t → slice_get (places (the_book d)) i ≡ Some t
input-place d sealed p same i t is = phase-place d sealed i t (ap (λ q. slice_get (phase_places q) i) (sym same) ∙ is)

-- the conditions of a line have numbers below the book's
pub line-few : (d : Draft) → IsSealed d → (n : ℕ) → n < length (lines_of (the_book d).alerts) → n < 32768
line-few d sealed n lt = omega (arith, few-lines-in-all d sealed)
