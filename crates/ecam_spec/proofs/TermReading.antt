-- The verdict on a condition's text, computed: the text is read once from the left, token by token, with a stack
-- of what is still expected. So each text has a verdict.
use Rattle.std.specs.Prelude.{ℕ, zero, suc, ◌+◌, ◌-◌, option_map, option_and_then, Bool, true, false, List, [], ◌∷◌, ◌++◌, length, Option, Some, None, Result, Ok, Err}
use Rattle.ecam_spec.specs.declared.terms.Span.{Span}
use Rattle.ecam_spec.specs.declared.terms.Reserved.{Reserved}
use Rattle.ecam_spec.specs.declared.terms.Reserved.TheVariants as words
use Rattle.ecam_spec.specs.declared.terms.Token.{Token}
use Rattle.ecam_spec.specs.declared.terms.Token.TheVariants.{Word, Name, KeyWord, Number, Sign, Open, Comma, Close}
use Rattle.ecam_spec.specs.declared.term_steps.Connective.{Connective}
use Rattle.ecam_spec.specs.declared.term_steps.Connective.TheVariants as lists
use Rattle.ecam_spec.specs.declared.term_steps.NameRole.{NameRole}
use Rattle.ecam_spec.specs.declared.term_steps.NameRole.TheVariants as name_roles
use Rattle.ecam_spec.specs.declared.term_steps.NumberRole.{NumberRole}
use Rattle.ecam_spec.specs.declared.term_steps.NumberRole.TheVariants as roles
use Rattle.ecam_spec.specs.declared.term_steps.Step.{Step}
use Rattle.ecam_spec.specs.declared.term_steps.Step.TheVariants as steps
use Rattle.ecam_spec.specs.declared.term_steps.Expected.{Expected}
use Rattle.ecam_spec.specs.declared.term_steps.Expected.TheVariants.{Condition, Tail, Opening, Separator, Closing, Finish, AName, AKey, ANumber, Least, Others, Phases}
use Rattle.ecam_spec.specs.Book.{Text}
use Rattle.ecam_spec.specs.Token.{tokens, Placed}
use Rattle.ecam_spec.specs.Grammar.{Form, Forms, truth, name_of, compare_of, valid_of, phase_of, alert_of, press_of, fwc_of, not_of, rise_of, all_of, any_of, at_least_of, conf_of, hold_of, latch_of, no_more, and_then}
use Rattle.ecam_spec.specs.TermText.{TermNames, Outcome, syntax_error, judged}

-- what follows a reserved word
abbrev pub rule : Reserved → List Expected
rule words.True = []
rule words.False = []
rule words.Valid = Opening ∷ AName name_roles.Valid ∷ Closing ∷ []
rule words.Phase = Opening ∷ ANumber roles.Phase ∷ Phases ∷ []
rule words.Alert = Opening ∷ AName name_roles.Alert ∷ Closing ∷ []
rule words.Press = Opening ∷ AKey ∷ Closing ∷ []
rule words.Fwc = Opening ∷ ANumber roles.Computer ∷ Closing ∷ []
rule words.Not = Opening ∷ Condition ∷ Finish steps.Negation ∷ []
rule words.Rise = Opening ∷ Condition ∷ Finish steps.Risen ∷ []
rule words.All = Opening ∷ Condition ∷ Others lists.All 1 ∷ []
rule words.Any = Opening ∷ Condition ∷ Others lists.Any 1 ∷ []
rule words.AtLeast = Opening ∷ Least ∷ []
rule words.Conf = Opening ∷ Condition ∷ Separator ∷ ANumber roles.Confirmed ∷ Closing ∷ []
rule words.Hold = Opening ∷ Condition ∷ Separator ∷ ANumber roles.Held ∷ Closing ∷ []
rule words.Latch = Opening ∷ Condition ∷ Separator ∷ Condition ∷ Finish steps.Latched ∷ []

-- the constants are whole at once
abbrev pub at_once : Reserved → List Step
at_once words.True = steps.Constant true ∷ []
at_once words.False = steps.Constant false ∷ []
at_once _ = []

abbrev pub name_step : NameRole → Span → Step
name_step name_roles.Valid n = steps.Valid n
name_step name_roles.Alert n = steps.Alerted n

abbrev pub number_step : NumberRole → Span → Step
number_step (roles.Compared op) n = steps.Compared op n
number_step roles.Computer n = steps.Computer n
number_step roles.Phase n = steps.Phase n
number_step roles.AlsoPhase n = steps.AlsoPhase n
number_step roles.Confirmed n = steps.Confirmed n
number_step roles.Held n = steps.Held n

-- what is expected after a token, and what it makes whole
abbrev pub Move : Type 0
Move = List Expected × List Step

abbrev pub move_to : List Expected → List Step → Option Move
move_to s made = Some (s, made)

-- one token; where a tail's isn't there, the token is the next one's
unfoldable pub next_move : List Expected → Token → Option Move
next_move [] t = None
next_move (Condition ∷ s) (Word w) = move_to (rule w ++ s) (at_once w)
next_move (Condition ∷ s) (Name n) = move_to (Tail ∷ s) (steps.Named n ∷ [])
next_move (Condition ∷ s) _ = None
next_move (Tail ∷ s) (Sign op) = move_to (ANumber (roles.Compared op) ∷ s) []
next_move (Tail ∷ s) t = next_move s t
next_move (Opening ∷ s) Open = move_to s []
next_move (Opening ∷ s) _ = None
next_move (Separator ∷ s) Comma = move_to s []
next_move (Separator ∷ s) _ = None
next_move (Closing ∷ s) Close = move_to s []
next_move (Closing ∷ s) _ = None
next_move (Finish step ∷ s) Close = move_to s (step ∷ [])
next_move (Finish step ∷ s) _ = None
next_move (AName role ∷ s) (Name n) = move_to s (name_step role n ∷ [])
next_move (AName role ∷ s) _ = None
next_move (AKey ∷ s) (KeyWord key) = move_to s (steps.Pressed key ∷ [])
next_move (AKey ∷ s) _ = None
next_move (ANumber role ∷ s) (Number n) = move_to s (number_step role n ∷ [])
next_move (ANumber role ∷ s) _ = None
next_move (Least ∷ s) (Number n) = move_to (Separator ∷ Condition ∷ Others (lists.AtLeast n) 1 ∷ s) []
next_move (Least ∷ s) _ = None
next_move (Others list count ∷ s) Comma = move_to (Condition ∷ Others list (count + 1) ∷ s) []
next_move (Others list count ∷ s) Close = move_to s (steps.Over list count ∷ [])
next_move (Others list count ∷ s) _ = None
next_move (Phases ∷ s) Comma = move_to (ANumber roles.AlsoPhase ∷ Phases ∷ s) []
next_move (Phases ∷ s) Close = move_to s []
next_move (Phases ∷ s) _ = None

-- nothing more is needed
unfoldable pub is_whole : List Expected → Bool
is_whole [] = true
is_whole (Tail ∷ s) = is_whole s
is_whole _ = false

-- steps that were made before
abbrev pub after_steps : List Step → Result (List Step) ℕ → Result (List Step) ℕ
after_steps made (Ok ss) = Ok (made ++ ss)
after_steps made (Err at) = Err at

-- after a move that was found, what goes on from there
abbrev pub read_on : ℕ → Option Move → (List Expected → Result (List Step) ℕ) → Result (List Step) ℕ
read_on at None go_on = Err at
read_on at (Some move) go_on = after_steps move.1 (go_on move.0)

-- the steps that a text's tokens make, or the place of the first that doesn't fit; the text ends at a place
unfoldable pub reading : ℕ → List Expected → List Placed → Result (List Step) ℕ
reading end s [] = elim (is_whole s) [ true ↦ Ok [] | false ↦ Err end ]
reading end s (t ∷ ts) = read_on t.0 (next_move s t.1) (λ rest. reading end rest ts)

abbrev pub text_reading : Text → Result (List Step) ℕ
text_reading text = reading (length text) (Condition ∷ []) (tokens text)

-- takes so many further conditions, and the first, off those that were read, of which the last is on top
abbrev pub gathered : ℕ → Forms → List Form → Option (Form × Forms × List Form)
gathered n fs [] = None
gathered zero fs (f ∷ older) = Some (f, fs, older)
gathered (suc n) fs (f ∷ older) = gathered n (and_then f fs) older

abbrev pub list_form : Connective → Form → Forms → Form
list_form lists.All f fs = all_of f fs
list_form lists.Any f fs = any_of f fs
list_form (lists.AtLeast n) f fs = at_least_of n f fs

-- what a step makes of the conditions that were read, or nothing where some are missing
unfoldable pub after_step : Step → List Form → Option (List Form)
after_step (steps.Constant b) read = Some (truth b ∷ read)
after_step (steps.Named n) read = Some (name_of n ∷ read)
after_step (steps.Compared op x) (name_of n ∷ older) = Some (compare_of n op x ∷ older)
after_step (steps.Compared op x) _ = None
after_step (steps.Valid n) read = Some (valid_of n ∷ read)
after_step (steps.Alerted n) read = Some (alert_of n ∷ read)
after_step (steps.Pressed key) read = Some (press_of key ∷ read)
after_step (steps.Computer n) read = Some (fwc_of n ∷ read)
after_step (steps.Phase n) read = Some (phase_of n [] ∷ read)
after_step (steps.AlsoPhase m) (phase_of n ns ∷ older) = Some (phase_of n (ns ++ m ∷ []) ∷ older)
after_step (steps.AlsoPhase m) _ = None
after_step steps.Negation (f ∷ older) = Some (not_of f ∷ older)
after_step steps.Negation [] = None
after_step steps.Risen (f ∷ older) = Some (rise_of f ∷ older)
after_step steps.Risen [] = None
after_step (steps.Over list count) read = option_map (λ g. list_form list g.0 g.1 ∷ g.2) (gathered (count - 1) no_more read)
after_step (steps.Confirmed n) (f ∷ older) = Some (conf_of f n ∷ older)
after_step (steps.Confirmed n) [] = None
after_step (steps.Held n) (f ∷ older) = Some (hold_of f n ∷ older)
after_step (steps.Held n) [] = None
after_step steps.Latched (r ∷ s ∷ older) = Some (latch_of s r ∷ older)
after_step steps.Latched _ = None

unfoldable pub after_all : List Step → List Form → Option (List Form)
after_all [] read = Some read
after_all (s ∷ ss) read = option_and_then (after_all ss) (after_step s read)

abbrev pub judged_last : TermNames → Text → Option (List Form) → Outcome
judged_last names text (Some (f ∷ older)) = judged names text f
judged_last names text _ = syntax_error 0

abbrev pub answered : TermNames → Text → Result (List Step) ℕ → Outcome
answered names text (Ok ss) = judged_last names text (after_all ss [])
answered names text (Err at) = syntax_error at

-- what a text is answered with
unfoldable pub computed : TermNames → Text → Outcome
computed names text = answered names text (text_reading text)
