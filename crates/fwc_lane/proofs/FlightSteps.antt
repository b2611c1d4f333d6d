-- The six inputs of the phase, stepped one after another.
use Rattle.std.proofs.Common.{◌≡◌, ℕ, suc, ◌<◌, ◌^◌, Bool, false, length, slice_get, Some, refl, sym, ap, subst, ◌∙◌, arith}
use Rattle.std.specs.Prelude.{slice_index_or}
use Rattle.ecam_spec.specs.Book as plain
use Rattle.ecam_spec.specs.Term.{holds}
use Rattle.ecam_spec.specs.TermSize.{Placed}
use Rattle.ecam_spec.specs.TermNames.{IsWithin}
use Rattle.ecam_spec.specs.History.{Moment}
use Rattle.ecam_spec.specs.Situation.{flight_world, flight}
use Rattle.book_model.specs.declared.draft.PhaseTerms.{PhaseTerms}
use Rattle.book_model.specs.declared.draft.Draft.{Draft}
use Rattle.book_model.specs.View.{tree_in, placed_of, phase_of}
use Rattle.book_model.specs.Slots.{phase_places, phase_trees}
use Rattle.book_model.specs.Sealed.{the_book, IsSealed}
use Rattle.book_model.specs.Conditions.{places, alerts_from, world_of}
use Rattle.book_model.proofs.BookLists.{book-phase}
use Rattle.book_model.proofs.ConditionPlaces.{phase-place}
use Rattle.book_model.proofs.ConditionNames.{phase-names}
use Rattle.book_model.proofs.ConditionRanges.{ranges-apart}
use Rattle.book_model.proofs.ConditionWorlds.{phase-world}
use Rattle.flight_phases.specs.Inputs.{AreInputs}
use Rattle.term_eval.specs.declared.env.Env.{Env}
use Rattle.term_eval.specs.Woken.{moved}
use Rattle.condition_codes.specs.Places.{nodes_before}
use Rattle.fwc_lane.specs.declared.terms.Terms.{Terms}
use Rattle.fwc_lane.specs.Conditions.{StepsTerm, TellsMoved, TermsStand, BookHalf, known_world}
use Rattle.fwc_lane.specs.Given.{Lends, ShowsFirst}
use Rattle.fwc_lane.specs.PhaseTruths.{inputs_by}
use Rattle.fwc_lane.specs.Waking.{NoneMarked}
use Rattle.fwc_lane.proofs.Showing.{shows-flight}
use Rattle.fwc_lane.proofs.Stages.{same-tells}
use Rattle.fwc_lane.proofs.Stepping.{rest-asked, half-rest}

-- where an input lies, and what it may name
module _ (d : Draft) (sealed : IsSealed d) (p : PhaseTerms) (same : p ≡ d.phase) (i : ℕ) where
  pub input-place : (t : Placed) → slice_get (phase_places p) i ≡ Some t → slice_get (places (the_book d)) i ≡ Some t
  input-place t is = phase-place d sealed i t (ap (λ q. slice_get (phase_places q) i) (sym same) ∙ is)

  pub input-names : (c : plain.Tree) → slice_get (phase_trees p) i ≡ Some c → IsWithin (length d.params.items) 0 c
  input-names c is = phase-names d sealed i c (ap (λ q. slice_get (phase_trees q) i) (sym same) ∙ is)

tells : (d : Draft) (m : ℕ → Moment) (k i : ℕ) → i < alerts_from → (t : Placed) → TellsMoved (moved (known_world (the_book d) m 0) k) (world_of (the_book d) m i) k t
tells d m k i lt t = same-tells (known_world (the_book d) m 0) (world_of (the_book d) m i) k t (phase-world (the_book d) m i lt)

module _ (d : Draft) (sealed : IsSealed d) (p : PhaseTerms) (same : p ≡ d.phase) (m : ℕ → Moment) (k : ℕ) (env : Env) (lends : Lends (the_book d) m k env)
    (one : env.phase.number ≡ 1) (none : length env.active.now ≡ 0) where
  shows : (i : ℕ) → i < alerts_from → ShowsFirst env (world_of (the_book d) m i) k
  shows i lt = subst (λ w. ShowsFirst env w k) (sym (phase-world (the_book d) m i lt)) (shows-flight (the_book d) m k env lends one none)

  module _ (i : ℕ) (lt : i < alerts_from) (t : Placed) (is : slice_get (phase_places p) i ≡ Some t) (visited : ℕ) (old new : Terms) (answer : Bool) (steps : StepsTerm (places (the_book d)) env k i t old new answer)
      (half : BookHalf (the_book d) m k i 0 visited old) where
    pub input-truth : answer ≡ holds (flight_world (the_book d) m) t.tree k
    input-truth =
        steps.truth (world_of (the_book d) m) (moved (known_world (the_book d) m 0) k) visited (input-place d sealed p same i t is) (shows i lt) (tells d m k i lt t) half
        ∙ ap (λ w. holds w t.tree k) (phase-world (the_book d) m i lt)

    pub input-stands : BookHalf (the_book d) m k (suc i) 0 visited new
    input-stands =
        steps.stands (world_of (the_book d) m) (moved (known_world (the_book d) m 0) k) visited (input-place d sealed p same i t is) (ranges-apart (the_book d)) (shows i lt) (tells d m k i lt t) half

-- the answers are the inputs of the moment
pub record SixAnswers (d : Draft) (m : ℕ → Moment) (k : ℕ) (p : PhaseTerms) (gnd run tp fast high low : Bool) : Type 0 where
  pub gnd_is : gnd ≡ holds (flight_world (the_book d) m) (tree_in p.gnd) k
  pub run_is : run ≡ holds (flight_world (the_book d) m) (tree_in p.run) k
  pub tp_is : tp ≡ holds (flight_world (the_book d) m) (tree_in p.tp) k
  pub fast_is : fast ≡ holds (flight_world (the_book d) m) (tree_in p.fast) k
  pub high_is : high ≡ holds (flight_world (the_book d) m) (tree_in p.high) k
  pub low_is : low ≡ holds (flight_world (the_book d) m) (tree_in p.low) k

pub inputs-are : (d : Draft) (m : ℕ → Moment) (k : ℕ) (p : PhaseTerms) (gnd run tp fast high low : Bool) → p ≡ d.phase → SixAnswers d m k p gnd run tp fast high low
    → AreInputs (flight (the_book d) m) k (record { gnd = gnd; run = run; tp = tp; fast = fast; high = high; low = low })
unfolding flight
inputs-are d m k p gnd run tp fast high low same six =
    let own : phase_of p ≡ (the_book d).phase = ap phase_of same ∙ sym (book-phase d) in
    record {
      gnd = six.gnd_is ∙ ap (λ (q : plain.PhaseTerms). holds (flight_world (the_book d) m) q.gnd k) own;
      run = six.run_is ∙ ap (λ (q : plain.PhaseTerms). holds (flight_world (the_book d) m) q.run k) own;
      tp = six.tp_is ∙ ap (λ (q : plain.PhaseTerms). holds (flight_world (the_book d) m) q.tp k) own;
      fast = six.fast_is ∙ ap (λ (q : plain.PhaseTerms). holds (flight_world (the_book d) m) q.fast k) own;
      high = six.high_is ∙ ap (λ (q : plain.PhaseTerms). holds (flight_world (the_book d) m) q.high k) own;
      low = six.low_is ∙ ap (λ (q : plain.PhaseTerms). holds (flight_world (the_book d) m) q.low k) own;
    }

-- where none of the six is stirred, each is what it was
module _ (d : Draft) (sealed : IsSealed d) (p : PhaseTerms) (same : p ≡ d.phase) (m : ℕ → Moment) (k : ℕ) (small : k < 2 ^ 63) (visited : ℕ) (t : Terms)
    (off : NoneMarked t.stirred 0 alerts_from) (half : BookHalf (the_book d) m k 0 0 visited t) where
  truth : (i : ℕ) → i < alerts_from → (q : Placed) → slice_get (phase_places p) i ≡ Some q → BookHalf (the_book d) m k i 0 visited t
      → slice_index_or t.truths.items i false ≡ holds (flight_world (the_book d) m) q.tree k
  truth i lt q is before =
      (rest-asked (world_of (the_book d) m i) (moved (known_world (the_book d) m 0) k) k i (nodes_before (places (the_book d)) i) q t small (tells d m k i lt q)
      (before.left i q (omega arith) (input-place d sealed p same i q is)) (off i (omega arith) lt)).told
      ∙ ap (λ w. holds w q.tree k) (phase-world (the_book d) m i lt)

  stand : (i : ℕ) → i < alerts_from → (q : Placed) → slice_get (phase_places p) i ≡ Some q → BookHalf (the_book d) m k i 0 visited t
      → BookHalf (the_book d) m k (suc i) 0 visited t
  stand i lt q is before =
      half-rest (places (the_book d)) (world_of (the_book d) m) k i q (input-place d sealed p same i q is) (moved (known_world (the_book d) m 0) k) visited t small
      (tells d m k i lt q) (off i (omega arith) lt) before

  stand-1 : BookHalf (the_book d) m k 1 0 visited t
  stand-1 = stand 0 (omega arith) (placed_of p.gnd) refl half

  stand-2 : BookHalf (the_book d) m k 2 0 visited t
  stand-2 = stand 1 (omega arith) (placed_of p.run) refl stand-1

  stand-3 : BookHalf (the_book d) m k 3 0 visited t
  stand-3 = stand 2 (omega arith) (placed_of p.tp) refl stand-2

  stand-4 : BookHalf (the_book d) m k 4 0 visited t
  stand-4 = stand 3 (omega arith) (placed_of p.fast) refl stand-3

  stand-5 : BookHalf (the_book d) m k 5 0 visited t
  stand-5 = stand 4 (omega arith) (placed_of p.high) refl stand-4

  pub inputs-rest : BookHalf (the_book d) m k alerts_from 0 visited t
  inputs-rest = stand 5 (omega arith) (placed_of p.low) refl stand-5

  pub inputs-kept : AreInputs (flight (the_book d) m) k (inputs_by t.truths.items)
  inputs-kept = inputs-are d m k p _ _ _ _ _ _ same record {
    gnd_is = truth 0 (omega arith) (placed_of p.gnd) refl half;
    run_is = truth 1 (omega arith) (placed_of p.run) refl stand-1;
    tp_is = truth 2 (omega arith) (placed_of p.tp) refl stand-2;
    fast_is = truth 3 (omega arith) (placed_of p.fast) refl stand-3;
    high_is = truth 4 (omega arith) (placed_of p.high) refl stand-4;
    low_is = truth 5 (omega arith) (placed_of p.low) refl stand-5;
  }

-- what the conditions said in the moment before are its inputs
module _ (d : Draft) (sealed : IsSealed d) (m : ℕ → Moment) (k h : ℕ) (later : k ≡ suc h) (t : Terms) (stands : TermsStand (the_book d) m k t) where
  said : (i : ℕ) → i < alerts_from → (q : Placed) → slice_get (phase_places d.phase) i ≡ Some q
      → slice_index_or t.truths.items i false ≡ holds (flight_world (the_book d) m) q.tree h
  said i lt q is = stands.told h later i q (input-place d sealed d.phase refl i q is) ∙ ap (λ w. holds w q.tree h) (phase-world (the_book d) m i lt)

  pub inputs-before : AreInputs (flight (the_book d) m) h (inputs_by t.truths.items)
  inputs-before = inputs-are d m h d.phase _ _ _ _ _ _ refl record {
    gnd_is = said 0 (omega arith) (placed_of d.phase.gnd) refl;
    run_is = said 1 (omega arith) (placed_of d.phase.run) refl;
    tp_is = said 2 (omega arith) (placed_of d.phase.tp) refl;
    fast_is = said 3 (omega arith) (placed_of d.phase.fast) refl;
    high_is = said 4 (omega arith) (placed_of d.phase.high) refl;
    low_is = said 5 (omega arith) (placed_of d.phase.low) refl;
  }
