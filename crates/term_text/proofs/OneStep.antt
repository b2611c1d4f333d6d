-- What each step leaves, where the conditions that it needs were read.
use Rattle.std.proofs.Common.{◌≡◌, ℕ, ◌-◌, List, [], ◌∷◌, ◌++◌, fold, Option, Some, None, Result, refl, sym, ap, ◌∙◌, subst, append_assoc}
use Rattle.std.proofs.lemmas.List.{append-nil}
use Rattle.std.proofs.lemmas.Grind.{flat_map-append}
use Rattle.std.proofs.lemmas.List.Sums.{fold-append}
use Rattle.std.proofs.lemmas.Result.{IfOk-weaker}
use Rattle.std.specs.Result.{IfOk}
use Rattle.std.specs.Prelude.{option_map, bit_or}
use Rattle.std.specs.List.{flat_map}
use Rattle.ecam_spec.specs.declared.kinds.Op.{Op}
use Rattle.ecam_spec.specs.declared.terms.Span.{Span}
use Rattle.ecam_spec.specs.declared.term_steps.Connective.{Connective}
use Rattle.ecam_spec.specs.declared.term_steps.Step.TheVariants as steps
use Rattle.ecam_spec.specs.Book.{Text, Tree, in_phase, negation, confirmed, held, risen, latched}
use Rattle.ecam_spec.specs.Grammar.{Form, Forms, name_of, compare_of, phase_of, not_of, rise_of, conf_of, hold_of, latch_of, no_more, and_then}
use Rattle.ecam_spec.specs.TermText.{TermNames, Flaw, earliest, flaws, tree_of_form, phase_flaw, moments_flaw, amount}
use Rattle.ecam_spec.specs.TermNumber.{one_phase}
use Rattle.ecam_spec.proofs.TermReading.{gathered, list_form, after_step}
use Rattle.term_text.specs.declared.part.Part.{Part}
use Rattle.term_text.specs.declared.members.Members.{Members}
use Rattle.term_text.specs.Flaws.{earlier_of}
use Rattle.term_text.specs.Parts.{Judges, JudgesForm, JudgesForms, StandFor, IsLastName}
use Rattle.term_text.proofs.Flawed.{earliest-append}
use Rattle.term_text.proofs.Taken.{top_of}

-- the condition that was taken off is the one on top
abbrev pub Pops : List Part → Part → List Part → Type 0
Pops ps popped rest = (top : Part) (left : List Part) → ps ≡ top ∷ left → (popped ≡ top) × (rest ≡ left)

module _ (names : TermNames) (text : Text) where
  -- a step that puts an atom on top
  pub put : (p : Part) (ps : List Part) (f : Form) (forms after : List Form) → Some (f ∷ forms) ≡ Some after → JudgesForm names text p f → StandFor names text ps forms → StandFor names text (p ∷ ps) after
  put p ps f forms after e h k =
      let is : f ∷ forms ≡ after = cc in
      subst (λ (fs : List Form). StandFor names text (p ∷ ps) fs) is (h, k)

  module _ {E : Type 0} (r : Result Part E) where
    -- the same, where memory may run out
    tried_of_one : (make : Form → Form) (popped : Part) (ps rest : List Part) (f : Form) (older after : List Form) → Pops ps popped rest → (JudgesForm names text popped f → IfOk r (λ p. JudgesForm names text p (make f)))
        → Some (make f ∷ older) ≡ Some after → StandFor names text ps (f ∷ older) → IfOk r (λ p. StandFor names text (p ∷ rest) after)
    tried_of_one make popped ps rest f older after pops made e h =
        let top = top_of names text ps f older h in
        let is = pops top.part top.rest top.is in
        IfOk-weaker r (λ p. JudgesForm names text p (make f)) (λ p. StandFor names text (p ∷ rest) after)
        (λ p judged. put p rest (make f) older after e judged (subst (λ (xs : List Part). StandFor names text xs older) (sym is.1) top.stand))
        (made (subst (λ (x : Part). JudgesForm names text x f) (sym is.0) top.judged))

    pub negation_step : (popped : Part) (ps rest : List Part) (forms after : List Form) → Pops ps popped rest
        → ((wrong : Option Flaw) (tree : Tree) → Judges popped wrong tree → IfOk r (λ p. Judges p wrong (negation tree)))
        → StandFor names text ps forms → after_step steps.Negation forms ≡ Some after → IfOk r (λ p. StandFor names text (p ∷ rest) after)
    unfolding after_step flaws tree_of_form
    negation_step popped ps rest [] after pops told h e = absurd cc
    negation_step popped ps rest (f ∷ older) after pops told h e = tried_of_one not_of popped ps rest f older after pops (told _ _) e h

    pub rise_step : (popped : Part) (ps rest : List Part) (forms after : List Form) → Pops ps popped rest
        → ((wrong : Option Flaw) (tree : Tree) → Judges popped wrong tree → IfOk r (λ p. Judges p wrong (risen tree)))
        → StandFor names text ps forms → after_step steps.Risen forms ≡ Some after → IfOk r (λ p. StandFor names text (p ∷ rest) after)
    unfolding after_step flaws tree_of_form
    rise_step popped ps rest [] after pops told h e = absurd cc
    rise_step popped ps rest (f ∷ older) after pops told h e = tried_of_one rise_of popped ps rest f older after pops (told _ _) e h

    -- what is wrong with a condition and with a number behind it
    with_number : (n : Span) (f : Form) (own : List Flaw) (tree : Tree) → IfOk r (λ p. Judges p (earlier_of (earliest (flaws names text f)) (earliest own)) tree) → IfOk r (λ p. Judges p (earliest (flaws names text f ++ own)) tree)
    with_number n f own tree h = subst (λ (w : Option Flaw). IfOk r (λ p. Judges p w tree)) (sym (earliest-append (flaws names text f) own)) h

    pub confirm_step : (n : Span) (popped : Part) (ps rest : List Part) (forms after : List Form) → Pops ps popped rest
        → ((wrong : Option Flaw) (tree : Tree) → Judges popped wrong tree → IfOk r (λ p. Judges p (earlier_of wrong (earliest (moments_flaw names text n))) (confirmed tree (amount names text n))))
        → StandFor names text ps forms → after_step (steps.Confirmed n) forms ≡ Some after → IfOk r (λ p. StandFor names text (p ∷ rest) after)
    unfolding after_step flaws tree_of_form
    confirm_step n popped ps rest [] after pops told h e = absurd cc
    confirm_step n popped ps rest (f ∷ older) after pops told h e =
        tried_of_one (λ x. conf_of x n) popped ps rest f older after pops (λ k. with_number n f (moments_flaw names text n) _ (told _ _ k)) e h

    pub hold_step : (n : Span) (popped : Part) (ps rest : List Part) (forms after : List Form) → Pops ps popped rest
        → ((wrong : Option Flaw) (tree : Tree) → Judges popped wrong tree → IfOk r (λ p. Judges p (earlier_of wrong (earliest (moments_flaw names text n))) (held tree (amount names text n))))
        → StandFor names text ps forms → after_step (steps.Held n) forms ≡ Some after → IfOk r (λ p. StandFor names text (p ∷ rest) after)
    unfolding after_step flaws tree_of_form
    hold_step n popped ps rest [] after pops told h e = absurd cc
    hold_step n popped ps rest (f ∷ older) after pops told h e =
        tried_of_one (λ x. hold_of x n) popped ps rest f older after pops (λ k. with_number n f (moments_flaw names text n) _ (told _ _ k)) e h

    pub latch_step : (reset popped : Part) (ps middle rest : List Part) (forms after : List Form) → Pops ps reset middle → Pops middle popped rest
        → ((wrong other : Option Flaw) (tree second : Tree) → Judges popped wrong tree → Judges reset other second → IfOk r (λ p. Judges p (earlier_of wrong other) (latched tree second)))
        → StandFor names text ps forms → after_step steps.Latched forms ≡ Some after → IfOk r (λ p. StandFor names text (p ∷ rest) after)
    unfolding after_step flaws tree_of_form
    latch_step reset popped ps middle rest [] after first second told h e = absurd cc
    latch_step reset popped ps middle rest (f ∷ []) after first second told h e = absurd cc
    latch_step reset popped ps middle rest (f ∷ s ∷ older) after first second told h e =
        let top = top_of names text ps f (s ∷ older) h in
        let is = first top.part top.rest top.is in
        let below = subst (λ (xs : List Part). StandFor names text xs (s ∷ older)) (sym is.1) top.stand in
        tried_of_one (λ x. latch_of x f) popped middle rest s older after second
        (λ k.
        subst (λ (w : Option Flaw). IfOk r (λ p. Judges p w (latched (tree_of_form names text s) (tree_of_form names text f)))) (sym (earliest-append (flaws names text s) (flaws names text f)))
        (told _ _ _ _ k (subst (λ (x : Part). JudgesForm names text x f) (sym is.0) top.judged)))
        e below

  -- a comparison stands for that of the last name by itself
  pub compare_step : (p popped : Part) (name : Span) (op : Op) (x : Span) (ps rest : List Part) (forms after : List Form) → Pops ps popped rest → JudgesForm names text p (compare_of name op x)
      → StandFor names text ps forms → IsLastName name forms → after_step (steps.Compared op x) forms ≡ Some after → StandFor names text (p ∷ rest) after
  unfolding after_step
  compare_step p popped name op x ps rest (name_of n ∷ older) after pops told h last e =
      let top = top_of names text ps (name_of n) older h in
      let is = pops top.part top.rest top.is in
      put p rest (compare_of n op x) older after e
      (subst (λ (m : Span). JudgesForm names text p (compare_of m op x)) last told)
      (subst (λ (xs : List Part). StandFor names text xs older) (sym is.1) top.stand)
  compare_step p popped name op x ps rest _ after pops told h last e = absurd cc

  -- one more number of a phase
  phase_flaws : (n m : Span) (ns : List Span) → phase_flaw names text n ++ flat_map (phase_flaw names text) (ns ++ m ∷ []) ≡ (phase_flaw names text n ++ flat_map (phase_flaw names text) ns) ++ phase_flaw names text m
  phase_flaws n m ns =
      ap (λ (xs : List Flaw). phase_flaw names text n ++ xs) (flat_map-append (phase_flaw names text) ns (m ∷ []) ∙ ap (λ (xs : List Flaw). flat_map (phase_flaw names text) ns ++ xs) (append-nil (phase_flaw names text m)))
      ∙ sym (append_assoc (phase_flaw names text n) (flat_map (phase_flaw names text) ns) (phase_flaw names text m))

  pub phase_step : (p popped : Part) (m : Span) (ps rest : List Part) (forms after : List Form) → Pops ps popped rest
      → ((wrong : Option Flaw) (set : ℕ) → Judges popped wrong (in_phase set) → Judges p (earlier_of wrong (earliest (phase_flaw names text m))) (in_phase (bit_or set (one_phase (amount names text m)))))
      → StandFor names text ps forms → after_step (steps.AlsoPhase m) forms ≡ Some after → StandFor names text (p ∷ rest) after
  unfolding after_step flaws tree_of_form
  phase_step p popped m ps rest (phase_of n ns ∷ older) after pops told h e =
      let top = top_of names text ps (phase_of n ns) older h in
      let is = pops top.part top.rest top.is in
      let step : ℕ → Span → ℕ = λ set q. bit_or set (one_phase (amount names text q)) in
      let set = fold step (one_phase (amount names text n)) ns in
      let flaw = phase_flaw names text n ++ flat_map (phase_flaw names text) ns in
      let wrong : earlier_of (earliest flaw) (earliest (phase_flaw names text m)) ≡ earliest (phase_flaw names text n ++ flat_map (phase_flaw names text) (ns ++ m ∷ [])) =
      sym (earliest-append flaw (phase_flaw names text m)) ∙ ap earliest (sym (phase_flaws n m ns)) in
      let more : bit_or set (one_phase (amount names text m)) ≡ fold step (one_phase (amount names text n)) (ns ++ m ∷ []) = sym (fold-append step (one_phase (amount names text n)) ns (m ∷ [])) in
      put p rest (phase_of n (ns ++ m ∷ [])) older after e
      (subst (λ (x : ℕ). Judges p (earliest (phase_flaw names text n ++ flat_map (phase_flaw names text) (ns ++ m ∷ []))) (in_phase x)) more
      (subst (λ (w : Option Flaw). Judges p w (in_phase (bit_or set (one_phase (amount names text m))))) wrong
      (told _ _ (subst (λ (y : Part). JudgesForm names text y (phase_of n ns)) (sym is.0) top.judged))))
      (subst (λ (xs : List Part). StandFor names text xs older) (sym is.1) top.stand)
  phase_step p popped m ps rest _ after pops told h e = absurd cc

  pub list_step : (m : Members) (p : Part) (list : Connective) (count : ℕ) (ps rest : List Part) (forms after : List Form)
      → ((f : Form) (fs : Forms) (older : List Form) → gathered (count - 1) no_more forms ≡ Some (f, fs, older) → JudgesForms names text m (and_then f fs) × StandFor names text rest older)
      → ((f : Form) (fs : Forms) → JudgesForms names text m (and_then f fs) → JudgesForm names text p (list_form list f fs))
      → after_step (steps.Over list count) forms ≡ Some after → StandFor names text (p ∷ rest) after
  unfolding after_step
  list_step m p list count ps rest forms after taken listed e = found (gathered (count - 1) no_more forms) refl e
    where
      found : (o : Option (Form × Forms × List Form)) → gathered (count - 1) no_more forms ≡ o → option_map (λ g. list_form list g.0 g.1 ∷ g.2) o ≡ Some after → StandFor names text (p ∷ rest) after
      found None is made = absurd cc
      found (Some (f, fs, older)) is made =
          let t = taken f fs older is in
          put p rest (list_form list f fs) older after made (listed f fs t.0) t.1
