-- The grammar gives a list of tokens at most one condition, and the computed verdict is the verdict.
use Rattle.std.proofs.Common.{◌≡◌, inl, inr, ℕ, suc, ◌+◌, ◌-◌, Bool, true, false, List, [], ◌∷◌, ◌++◌, length, Option, Some, None, Result, Ok, Err, refl, sym, ap, ◌∙◌, subst, arith, append_assoc}
use Rattle.std.proofs.lemmas.List.{append-nil}
use Rattle.std.specs.Prelude.{option_map, option_and_then}
use Rattle.ecam_spec.specs.declared.terms.Span.{Span}
use Rattle.ecam_spec.specs.declared.terms.Token.{Token}
use Rattle.ecam_spec.specs.declared.term_steps.Connective.{Connective}
use Rattle.ecam_spec.specs.declared.term_steps.Connective.TheVariants as lists
use Rattle.ecam_spec.specs.declared.term_steps.Step.{Step}
use Rattle.ecam_spec.specs.declared.term_steps.Step.TheVariants as steps
use Rattle.ecam_spec.specs.declared.term_steps.Expected.{Expected}
use Rattle.ecam_spec.specs.declared.term_steps.Expected.TheVariants.{Condition}
use Rattle.ecam_spec.specs.Book.{Text}
use Rattle.ecam_spec.specs.Token.{Placed, tokens}
use Rattle.ecam_spec.specs.Grammar.{Form, Forms, truth, name_of, compare_of, valid_of, phase_of, alert_of, press_of, fwc_of, not_of, rise_of, all_of, any_of, at_least_of, conf_of, hold_of, latch_of, no_more, and_then, how_many, spelling, BeginsCondition}
use Rattle.ecam_spec.specs.TermText.{TermNames, Flaw, unknown_name, out_of_range, earliest, flaws, tree_of_form, judged, judged_tree, Outcome, syntax_error, unknown, number_error, too_deep, too_large, means}
use Rattle.ecam_spec.specs.TermVerdict.{words_of, StopsAt, IsVerdict}
use Rattle.ecam_spec.proofs.TermReading.{reading, text_reading, gathered, list_form, after_step, after_all, judged_last, answered, computed}
use Rattle.ecam_spec.proofs.TermPieces.{spelled, spelled-is, made, made_all, phases_made}
use Rattle.ecam_spec.proofs.TermReadings.{Reads, BeginsStack, Stops, ReadingIs, reading_is, reading_of_pieces, reading_of_stop}

-- further conditions on the conditions that were read, the last on top
abbrev pub pushed : Forms → List Form → List Form
pushed no_more read = read
pushed (and_then f fs) read = pushed fs (f ∷ read)

abbrev joined : Forms → Forms → Forms
joined no_more gs = gs
joined (and_then f fs) gs = and_then f (joined fs gs)

joined-nothing : (fs : Forms) → joined fs no_more ≡ fs
joined-nothing no_more = refl
joined-nothing (and_then f fs) = ap (λ (x : Forms). and_then f x) (joined-nothing fs)

gathered-pushed : (fs : Forms) (k : ℕ) (gs : Forms) (read : List Form) → gathered (k + how_many fs) gs (pushed fs read) ≡ gathered k (joined fs gs) read
gathered-pushed no_more k gs read = ap (λ (n : ℕ). gathered n gs read) (omega arith)
gathered-pushed (and_then f fs) k gs read =
    let e : k + suc (how_many fs) ≡ suc k + how_many fs = omega arith in
    ap (λ (n : ℕ). gathered n gs (pushed fs (f ∷ read))) e ∙ gathered-pushed fs (suc k) gs (f ∷ read)

pub gathered-list : (f : Form) (fs : Forms) (read : List Form) → gathered ((1 + how_many fs) - 1) no_more (pushed fs (f ∷ read)) ≡ Some (f, fs, read)
gathered-list f fs read =
    let e : (1 + how_many fs) - 1 ≡ 0 + how_many fs = omega arith in
    ap (λ (n : ℕ). gathered n no_more (pushed fs (f ∷ read))) e ∙ gathered-pushed fs 0 no_more (f ∷ read) ∙ ap (λ (x : Forms). Some (f, x, read)) (joined-nothing fs)

over : (list : Connective) (f : Form) (fs : Forms) (ss : List Step) (read : List Form) → after_all (steps.Over list (1 + how_many fs) ∷ ss) (pushed fs (f ∷ read)) ≡ after_all ss (list_form list f fs ∷ read)
unfolding after_all after_step
over list f fs ss read = ap (λ (o : Option (Form × Forms × List Form)). option_and_then (after_all ss) (option_map (λ g. list_form list g.0 g.1 ∷ g.2) o)) (gathered-list f fs read)

phases-read : (n : Span) (ns ms : List Span) (ss : List Step) (read : List Form) → after_all (phases_made ns ss) (phase_of n ms ∷ read) ≡ after_all ss (phase_of n (ms ++ ns) ∷ read)
unfolding after_all after_step
phases-read n [] ms ss read = ap (λ (x : List Span). after_all ss (phase_of n x ∷ read)) (sym (append-nil ms))
phases-read n (m ∷ ns) ms ss read = phases-read n ns (ms ++ m ∷ []) ss read ∙ ap (λ (x : List Span). after_all ss (phase_of n x ∷ read)) (append_assoc ms (m ∷ []) ns)

mutual
  unfolding after_all after_step

  -- the steps that a condition makes give it back
  pub made_read : (f : Form) (ss : List Step) (read : List Form) → after_all (made f ss) read ≡ after_all ss (f ∷ read)
  made_read (truth b) ss read = refl
  made_read (name_of n) ss read = refl
  made_read (compare_of n op x) ss read = refl
  made_read (valid_of n) ss read = refl
  made_read (phase_of n ns) ss read = phases-read n ns [] ss read
  made_read (alert_of n) ss read = refl
  made_read (press_of key) ss read = refl
  made_read (fwc_of n) ss read = refl
  made_read (not_of f) ss read = made_read f (steps.Negation ∷ ss) read
  made_read (rise_of f) ss read = made_read f (steps.Risen ∷ ss) read
  made_read (all_of f fs) ss read = made_read f (made_all fs (steps.Over lists.All (1 + how_many fs) ∷ ss)) read ∙ made_all_read fs (steps.Over lists.All (1 + how_many fs) ∷ ss) (f ∷ read) ∙ over lists.All f fs ss read
  made_read (any_of f fs) ss read = made_read f (made_all fs (steps.Over lists.Any (1 + how_many fs) ∷ ss)) read ∙ made_all_read fs (steps.Over lists.Any (1 + how_many fs) ∷ ss) (f ∷ read) ∙ over lists.Any f fs ss read
  made_read (at_least_of n f fs) ss read = made_read f (made_all fs (steps.Over (lists.AtLeast n) (1 + how_many fs) ∷ ss)) read ∙ made_all_read fs (steps.Over (lists.AtLeast n) (1 + how_many fs) ∷ ss) (f ∷ read) ∙ over (lists.AtLeast n) f fs ss read
  made_read (conf_of f n) ss read = made_read f (steps.Confirmed n ∷ ss) read
  made_read (hold_of f n) ss read = made_read f (steps.Held n ∷ ss) read
  made_read (latch_of f g) ss read = made_read f (made g (steps.Latched ∷ ss)) read ∙ made_read g (steps.Latched ∷ ss) (f ∷ read)

  pub made_all_read : (fs : Forms) (ss : List Step) (read : List Form) → after_all (made_all fs ss) read ≡ after_all ss (pushed fs read)
  made_all_read no_more ss read = refl
  made_all_read (and_then f fs) ss read = made_read f (made_all fs ss) read ∙ made_all_read fs ss (f ∷ read)

pub made_alone : (f : Form) → after_all (made f []) [] ≡ Some (f ∷ [])
unfolding after_all
made_alone f = made_read f [] []

-- a whole condition's tokens are read to its steps
pub reading_of_form : (end : ℕ) (ts : List Placed) (f : Form) → spelling f ≡ words_of ts → reading end (Condition ∷ []) ts ≡ Ok (made f [])
reading_of_form end ts f e = reading_of_pieces end ts (Condition ∷ []) (f, tt) (spelled-is f [] ∙ append-nil (spelling f) ∙ e)

abbrev somewhere : List Token → List Placed
somewhere [] = []
somewhere (t ∷ ts) = (0, t) ∷ somewhere ts

words-somewhere : (ts : List Token) → ts ≡ words_of (somewhere ts)
words-somewhere [] = refl
words-somewhere (t ∷ ts) = ap (λ (x : List Token). t ∷ x) (words-somewhere ts)

-- the grammar gives a list of tokens at most one condition
pub one_form : (f g : Form) → spelling f ≡ spelling g → f ≡ g
one_form f g e =
    let ts = somewhere (spelling g) in
    let w : spelling g ≡ words_of ts = words-somewhere (spelling g) in
    let left : reading 0 (Condition ∷ []) ts ≡ Ok (made f []) = reading_of_form 0 ts f (e ∙ w) in
    let right : reading 0 (Condition ∷ []) ts ≡ Ok (made g []) = reading_of_form 0 ts g w in
    let same : made f [] ≡ made g [] = cc in
    let forms : Some (f ∷ []) ≡ Some (g ∷ []) = sym (made_alone f) ∙ ap (λ (ss : List Step). after_all ss []) same ∙ made_alone g in
    cc

-- ---- the computed

unspelled : (f : Form) → spelled f [] ≡ spelling f
unspelled f = spelled-is f [] ∙ append-nil (spelling f)

abbrev whole_stack : List Expected
whole_stack = Condition ∷ []

as_condition : (ws : List Token) → BeginsStack whole_stack ws → BeginsCondition ws
as_condition ws b = (b.0.0, b.1, sym (unspelled b.0.0) ∙ b.2)

as_stack : (ws : List Token) → BeginsCondition ws → BeginsStack whole_stack ws
as_stack ws b = ((b.0, tt), b.1, unspelled b.0 ∙ b.2)

stop_told : (text : Text) (at : ℕ) → Stops (length text) whole_stack (tokens text) at → StopsAt text at
stop_told text at (inl h) = inl (record {
  before = h.before;
  token = h.token;
  after = h.after;
  split = h.split;
  begins = as_condition (words_of h.before) h.begins;
  ends = λ b. h.ends (as_stack (words_of h.before ++ h.token ∷ []) b);
})
stop_told text at (inr h) = inr (
  record {
    begins = as_condition (words_of (tokens text)) h.0.begins;
    short = λ c. h.0.short (c.0, tt) (unspelled c.0 ∙ c.1);
  },
  h.1,
)

stop_asked : (text : Text) (at : ℕ) → StopsAt text at → Stops (length text) whole_stack (tokens text) at
stop_asked text at (inl h) = inl (record {
  before = h.before;
  token = h.token;
  after = h.after;
  split = h.split;
  begins = as_stack (words_of h.before) h.begins;
  ends = λ b. h.ends (as_condition (words_of h.before ++ h.token ∷ []) b);
})
stop_asked text at (inr h) = inr (
  record {
    begins = as_stack (words_of (tokens text)) h.0.begins;
    short = λ p e. h.0.short (p.0, sym (unspelled p.0) ∙ e);
  },
  h.1,
)

module _ (names : TermNames) (text : Text) where
  sized_no_syntax : (deep large : Bool) (t : _) (at : ℕ) → elim deep as (λ v. Outcome) [ true ↦ too_deep | false ↦ elim large as (λ v. Outcome) [ true ↦ too_large | false ↦ means t ] ] ≡ syntax_error at → ⊥
  sized_no_syntax true large t at e = cc
  sized_no_syntax false true t at e = cc
  sized_no_syntax false false t at e = cc

  no_syntax : (flaw : Option Flaw) (t : _) (at : ℕ) → judged_tree names text flaw t ≡ syntax_error at → ⊥
  no_syntax (Some (unknown_name a)) t at e = cc
  no_syntax (Some (out_of_range a)) t at e = cc
  no_syntax None t at e = sized_no_syntax _ _ t at e

  pub judged_no_syntax : (f : Form) (at : ℕ) → judged names text f ≡ syntax_error at → ⊥
  unfolding judged
  judged_no_syntax f at e = no_syntax (earliest (flaws names text f)) (tree_of_form names text f) at e

  judged_told : (f : Form) → spelling f ≡ words_of (tokens text) → (o : Outcome) → judged names text f ≡ o → IsVerdict names text o
  unfolding IsVerdict
  judged_told f e (syntax_error at) h = absurd (judged_no_syntax f at h)
  judged_told f e (unknown at) h = (f, e, h)
  judged_told f e (number_error at) h = (f, e, h)
  judged_told f e too_deep h = (f, e, h)
  judged_told f e too_large h = (f, e, h)
  judged_told f e (means t) h = (f, e, h)

  read_told : (ss : List Step) → Reads whole_stack (words_of (tokens text)) ss → IsVerdict names text (judged_last names text (after_all ss []))
  read_told ss h =
      let f = h.0.0 in
      let found : after_all ss [] ≡ Some (f ∷ []) = ap (λ (x : List Step). after_all x []) (sym h.2) ∙ made_alone f in
      subst (λ (o : Option (List Form)). IsVerdict names text (judged_last names text o)) (sym found)
      (judged_told f (sym (unspelled f) ∙ h.1) (judged names text f) refl)

  answer_told : (r : Result (List Step) ℕ) → ReadingIs (length text) whole_stack (tokens text) r → IsVerdict names text (answered names text r)
  unfolding IsVerdict
  answer_told (Ok ss) h = read_told ss h
  answer_told (Err at) h = stop_told text at h

  -- what is computed is the computed
  pub computed_told : IsVerdict names text (computed names text)
  unfolding computed
  computed_told = answer_told (text_reading text) (reading_is (length text) whole_stack (tokens text))

  form_answered : (f : Form) → spelling f ≡ words_of (tokens text) → computed names text ≡ judged names text f
  unfolding computed
  form_answered f e =
      let r : text_reading text ≡ Ok (made f []) = reading_of_form (length text) (tokens text) f e in
      ap (answered names text) r ∙ ap (judged_last names text) (made_alone f)

  -- and there is no other
  pub computed_only : (o : Outcome) → IsVerdict names text o → computed names text ≡ o
  unfolding IsVerdict computed
  computed_only (syntax_error at) h = ap (answered names text) (reading_of_stop (length text) (tokens text) whole_stack at (stop_asked text at h))
  computed_only (unknown at) h = form_answered h.0 h.1 ∙ h.2
  computed_only (number_error at) h = form_answered h.0 h.1 ∙ h.2
  computed_only too_deep h = form_answered h.0 h.1 ∙ h.2
  computed_only too_large h = form_answered h.0 h.1 ∙ h.2
  computed_only (means t) h = form_answered h.0 h.1 ∙ h.2

-- each text has a verdict
unfoldable pub some_verdict : (names : TermNames) (text : Text) → (outcome : Outcome) × IsVerdict names text outcome
some_verdict names text = (computed names text, computed_told names text)

-- and no other
pub one_verdict : (names : TermNames) (text : Text) (o p : Outcome) → IsVerdict names text o → IsVerdict names text p → o ≡ p
one_verdict names text o p first second = sym (computed_only names text o first) ∙ computed_only names text p second
