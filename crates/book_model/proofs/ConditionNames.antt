-- What the conditions of a sealed book name: parameters that are there, and alerts that are known when a moment steps
-- them. No input of the phase names an alert, an alert's condition names those before it, all others any.
use Rattle.std.proofs.Common.{◌≡◌, ℕ, zero, suc, ◌<◌, true, false, List, map, length, get_or, slice_get, Some, sym, ap, ◌∙◌, subst}
use Rattle.std.proofs.lemmas.Bool.{leb-false}
use Rattle.std.proofs.lemmas.List.{length-map}
use Rattle.ecam_spec.specs.Book as plain
use Rattle.ecam_spec.specs.Book.{Tree, alert}
use Rattle.ecam_spec.specs.BookTerms.{phase_terms}
use Rattle.ecam_spec.specs.TermNames.{IsWithin}
use Rattle.ecam_spec.specs.DraftFaults.{has_atom, asks_phase_or_alert, asks_alert_from}
use Rattle.ecam_spec.specs.KeepsLimits.{IsSoundTerm, IsSoundPhase}
use Rattle.ecam_spec.proofs.AtomLaws.{narrow}
use Rattle.book_model.specs.View.{tree_in, alert_of, parameter_of, draft_of}
use Rattle.book_model.specs.Slots.{phase_trees}
use Rattle.book_model.specs.Sealed.{IsSealed}
use Rattle.book_model.specs.declared.draft.Line.{Line}
use Rattle.book_model.specs.declared.draft.Alert.{Alert}
use Rattle.book_model.specs.declared.draft.Memo.{Memo}
use Rattle.book_model.specs.declared.draft.Draft.{Draft}
use Rattle.book_model.proofs.Faultless.{inputs-ask, alerts-ask}
use Rattle.book_model.proofs.BookReads.{view-get}
use Rattle.book_model.proofs.BookLimits.{alert-sound, line-sound, memo-sound}

input-sound : (params alerts : ℕ) (p : plain.PhaseTerms) → IsSoundPhase params alerts p → (j : ℕ) (c : Tree) → slice_get (phase_terms p) j ≡ Some c → IsSoundTerm params alerts c
input-sound params alerts p sound zero c is = let same : p.gnd ≡ c = cc in subst (IsSoundTerm params alerts) same sound.gnd
input-sound params alerts p sound (suc zero) c is = let same : p.run ≡ c = cc in subst (IsSoundTerm params alerts) same sound.run
input-sound params alerts p sound (suc (suc zero)) c is = let same : p.tp ≡ c = cc in subst (IsSoundTerm params alerts) same sound.tp
input-sound params alerts p sound (suc (suc (suc zero))) c is = let same : p.fast ≡ c = cc in subst (IsSoundTerm params alerts) same sound.fast
input-sound params alerts p sound (suc (suc (suc (suc zero)))) c is = let same : p.high ≡ c = cc in subst (IsSoundTerm params alerts) same sound.high
input-sound params alerts p sound (suc (suc (suc (suc (suc zero))))) c is = let same : p.low ≡ c = cc in subst (IsSoundTerm params alerts) same sound.low
input-sound params alerts p sound (suc (suc (suc (suc (suc (suc j)))))) c is = absurd (let w : ⊥ = cc in w)

no-path : true ≡ false → ⊥
no-path e = cc

module _ (d : Draft) (sealed : IsSealed d) where
  -- an input of the phase, as each of `phase_trees`
  pub phase-asks : (j : ℕ) (c : Tree) → slice_get (phase_trees d.phase) j ≡ Some c → has_atom asks_phase_or_alert c ≡ false
  unfolding draft_of
  phase-asks = inputs-ask (draft_of d) sealed.faultless

  pub phase-names : (j : ℕ) (c : Tree) → slice_get (phase_trees d.phase) j ≡ Some c → IsWithin (length d.params.items) 0 c
  unfolding draft_of
  phase-names j c is =
      narrow (length d.params.items) (length (map alert_of d.alerts.items)) 0 asks_phase_or_alert (λ a e. absurd (no-path e)) c
      (subst (λ n. IsWithin n (length (map alert_of d.alerts.items)) c) (length-map d.params.items parameter_of) (input-sound _ _ _ sealed.sound.phase j c is).within)
      (phase-asks j c is)

  module _ (xs : List Alert) (a : ℕ) (x : Alert) (same : xs ≡ d.alerts.items) (within : a < length xs) (here : x ≡ get_or xs a x) where
    pub own-asks : has_atom (asks_alert_from a) (tree_in x.when) ≡ false
    unfolding draft_of
    own-asks = alerts-ask (draft_of d) sealed.faultless a (alert_of x) (ap (λ ys. slice_get (map alert_of ys) a) (sym same) ∙ view-get alert_of xs a x within here)

    pub own-names : IsWithin (length d.params.items) a (tree_in x.when)
    own-names =
        narrow (length d.params.items) (length d.alerts.items) a (asks_alert_from a) (λ i e. leb-false a i e) (tree_in x.when)
        (alert-sound d sealed xs a x same within here).when.within own-asks

    module _ (ls : List Line) (j : ℕ) (l : Line) (own : ls ≡ x.lines.items) (inside : j < length ls) (at : l ≡ get_or ls j l) where
      pub when-names : IsWithin (length d.params.items) (length d.alerts.items) (tree_in l.when)
      when-names = (line-sound d sealed xs a x same within here ls j l own inside at).when.within

      pub done-names : IsWithin (length d.params.items) (length d.alerts.items) (tree_in l.done)
      done-names = (line-sound d sealed xs a x same within here ls j l own inside at).done.within

  module _ (xs : List Memo) (j : ℕ) (x : Memo) (same : xs ≡ d.memos.items) (within : j < length xs) (here : x ≡ get_or xs j x) where
    pub memo-names : IsWithin (length d.params.items) (length d.alerts.items) (tree_in x.when)
    memo-names = (memo-sound d sealed xs j x same within here).when.within
