-- The verdict on a whole text, by the steps that it makes.
use Rattle.std.proofs.Common.{◌≡◌, List, [], ◌∷◌, Some, Result, Ok, Err, length, sym, ap, ◌∙◌, subst}
use Rattle.ecam_spec.specs.Book.{Text}
use Rattle.ecam_spec.specs.declared.term_steps.Step.{Step}
use Rattle.ecam_spec.specs.declared.term_steps.Expected.{Expected}
use Rattle.ecam_spec.specs.declared.term_steps.Expected.TheVariants.{Condition}
use Rattle.ecam_spec.specs.Grammar.{Form}
use Rattle.ecam_spec.specs.Token.{tokens}
use Rattle.ecam_spec.specs.TermText.{TermNames, judged}
use Rattle.ecam_spec.proofs.TermReading.{text_reading, after_all, judged_last, answered, computed}
use Rattle.ecam_spec.proofs.TermReadings.{ReadingIs, reading_is}
use Rattle.ecam_spec.proofs.TermVerdict.{made_alone}
use Rattle.term_tree.specs.declared.cond.Cond.{Cond}
use Rattle.term_text.specs.declared.error.TermError.{TermError}
use Rattle.term_text.specs.declared.error.TermError.TheVariants.{Syntax, UnknownName, Number, TooDeep, TooLarge, Memory}
use Rattle.term_text.specs.Answer.{Tells}
use Rattle.term_text.specs.StepsTold.{TellsSteps}

-- the steps of a text that is read to its end make one condition
pub one_condition : (text : Text) (ss : List Step) → text_reading text ≡ Ok ss → (f : Form) × (after_all ss [] ≡ Some (f ∷ []))
one_condition text ss e =
    let s : List Expected = Condition ∷ [] in
    let h = subst (ReadingIs (length text) s (tokens text)) e (reading_is (length text) s (tokens text)) in
    (h.0.0, ap (λ (x : List Step). after_all x []) (sym h.2) ∙ made_alone h.0.0)

module _ (names : TermNames) (text : Text) where
  pub read_whole : (ss : List Step) (answer : Result Cond TermError) → text_reading text ≡ Ok ss → ((f : Form) → after_all ss [] ≡ Some (f ∷ []) → Tells (judged names text f) answer) → Tells (computed names text) answer
  unfolding computed
  read_whole ss answer e told =
      let one = one_condition text ss e in
      let is : computed names text ≡ judged names text one.0 = ap (answered names text) e ∙ ap (judged_last names text) one.1 in
      subst (λ o. Tells o answer) (sym is) (told one.0 one.1)

  pub refused_early : (e : TermError) → TellsSteps (text_reading text) (Err e) → Tells (computed names text) (Err e)
  unfolding computed
  refused_early (Syntax at) h = ap (answered names text) h
  refused_early (UnknownName at) h = absurd h
  refused_early (Number at) h = absurd h
  refused_early TooDeep h = absurd h
  refused_early TooLarge h = absurd h
  refused_early Memory h = tt
