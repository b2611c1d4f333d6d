-- What completes a stack of expectations: for each a piece of a condition, with its tokens and the steps that it
-- makes. A move takes the first token off the pieces, and every move can be completed.
use Rattle.std.proofs.Common.{◌≡◌, ◌+◌, true, false, List, [], ◌∷◌, ◌++◌, Option, Some, None, refl, sym, ap, ◌∙◌, append_assoc}
use Rattle.ecam_spec.specs.declared.kinds.Key.{Key}
use Rattle.ecam_spec.specs.declared.kinds.Key.TheVariants.{Clr}
use Rattle.ecam_spec.specs.declared.kinds.Op.{Op}
use Rattle.ecam_spec.specs.declared.terms.Span.{Span}
use Rattle.ecam_spec.specs.declared.terms.Reserved.TheVariants as words
use Rattle.ecam_spec.specs.declared.terms.Token.{Token}
use Rattle.ecam_spec.specs.declared.terms.Token.TheVariants.{Word, Name, KeyWord, Number, Sign, Open, Comma, Close}
use Rattle.ecam_spec.specs.declared.term_steps.Connective.TheVariants as lists
use Rattle.ecam_spec.specs.declared.term_steps.Step.{Step}
use Rattle.ecam_spec.specs.declared.term_steps.Step.TheVariants as steps
use Rattle.ecam_spec.specs.declared.term_steps.Expected.{Expected}
use Rattle.ecam_spec.specs.declared.term_steps.Expected.TheVariants.{Condition, Tail, Opening, Separator, Closing, Finish, AName, AKey, ANumber, Least, Others, Phases}
use Rattle.ecam_spec.specs.Grammar.{Form, Forms, truth, name_of, compare_of, valid_of, phase_of, alert_of, press_of, fwc_of, not_of, rise_of, all_of, any_of, at_least_of, conf_of, hold_of, latch_of, no_more, and_then, how_many, numbers, spelling, spellings}
use Rattle.ecam_spec.proofs.TermReading.{name_step, number_step}

-- the tokens of further phases, before those that follow
abbrev pub numbers_then : List Span → List Token → List Token
numbers_then [] r = r
numbers_then (n ∷ ns) r = Comma ∷ Number n ∷ numbers_then ns r

abbrev mutual
  -- the tokens of a condition, before those that follow
  pub spelled : Form → List Token → List Token
  spelled (truth true) r = Word words.True ∷ r
  spelled (truth false) r = Word words.False ∷ r
  spelled (name_of n) r = Name n ∷ r
  spelled (compare_of n op x) r = Name n ∷ Sign op ∷ Number x ∷ r
  spelled (valid_of n) r = Word words.Valid ∷ Open ∷ Name n ∷ Close ∷ r
  spelled (phase_of n ns) r = Word words.Phase ∷ Open ∷ Number n ∷ numbers_then ns (Close ∷ r)
  spelled (alert_of n) r = Word words.Alert ∷ Open ∷ Name n ∷ Close ∷ r
  spelled (press_of key) r = Word words.Press ∷ Open ∷ KeyWord key ∷ Close ∷ r
  spelled (fwc_of n) r = Word words.Fwc ∷ Open ∷ Number n ∷ Close ∷ r
  spelled (not_of f) r = Word words.Not ∷ Open ∷ spelled f (Close ∷ r)
  spelled (rise_of f) r = Word words.Rise ∷ Open ∷ spelled f (Close ∷ r)
  spelled (all_of f fs) r = Word words.All ∷ Open ∷ spelled f (spelled_all fs (Close ∷ r))
  spelled (any_of f fs) r = Word words.Any ∷ Open ∷ spelled f (spelled_all fs (Close ∷ r))
  spelled (at_least_of n f fs) r = Word words.AtLeast ∷ Open ∷ Number n ∷ Comma ∷ spelled f (spelled_all fs (Close ∷ r))
  spelled (conf_of f n) r = Word words.Conf ∷ Open ∷ spelled f (Comma ∷ Number n ∷ Close ∷ r)
  spelled (hold_of f n) r = Word words.Hold ∷ Open ∷ spelled f (Comma ∷ Number n ∷ Close ∷ r)
  spelled (latch_of f g) r = Word words.Latch ∷ Open ∷ spelled f (Comma ∷ spelled g (Close ∷ r))

  pub spelled_all : Forms → List Token → List Token
  spelled_all no_more r = r
  spelled_all (and_then f fs) r = Comma ∷ spelled f (spelled_all fs r)

numbers_then-is : (ns : List Span) (r : List Token) → numbers_then ns r ≡ numbers ns ++ r
numbers_then-is [] r = refl
numbers_then-is (n ∷ ns) r = ap (λ (x : List Token). Comma ∷ Number n ∷ x) (numbers_then-is ns r)

regroup-latch : (a b r : List Token) → a ++ Comma ∷ ((b ++ Close ∷ []) ++ r) ≡ ((a ++ Comma ∷ b) ++ Close ∷ []) ++ r
regroup-latch a b r = simp append_assoc

list-is : (a b : List Token) (first others : List Token → List Token) → ((r : List Token) → first r ≡ a ++ r) → ((r : List Token) → others r ≡ b ++ r) → (r : List Token) → first (others (Close ∷ r)) ≡ ((a ++ b) ++ Close ∷ []) ++ r
list-is a b first others first-is others-is r =
    first-is (others (Close ∷ r))
    ∙ ap (λ (x : List Token). a ++ x) (others-is (Close ∷ r))
    ∙ sym (append_assoc a b (Close ∷ r))
    ∙ sym (append_assoc (a ++ b) (Close ∷ []) r)

mutual
  unfolding spelling

  pub spelled-is : (f : Form) (r : List Token) → spelled f r ≡ spelling f ++ r
  spelled-is (truth true) r = refl
  spelled-is (truth false) r = refl
  spelled-is (name_of n) r = refl
  spelled-is (compare_of n op x) r = refl
  spelled-is (valid_of n) r = refl
  spelled-is (phase_of n ns) r = ap (λ (x : List Token). Word words.Phase ∷ Open ∷ Number n ∷ x) (numbers_then-is ns (Close ∷ r) ∙ sym (append_assoc (numbers ns) (Close ∷ []) r))
  spelled-is (alert_of n) r = refl
  spelled-is (press_of key) r = refl
  spelled-is (fwc_of n) r = refl
  spelled-is (not_of f) r = ap (λ (x : List Token). Word words.Not ∷ Open ∷ x) (spelled-is f (Close ∷ r) ∙ sym (append_assoc (spelling f) (Close ∷ []) r))
  spelled-is (rise_of f) r = ap (λ (x : List Token). Word words.Rise ∷ Open ∷ x) (spelled-is f (Close ∷ r) ∙ sym (append_assoc (spelling f) (Close ∷ []) r))
  spelled-is (all_of f fs) r = ap (λ (x : List Token). Word words.All ∷ Open ∷ x) (list-is (spelling f) (spellings fs) (spelled f) (spelled_all fs) (λ x. spelled-is f x) (λ x. spelled_all-is fs x) r)
  spelled-is (any_of f fs) r = ap (λ (x : List Token). Word words.Any ∷ Open ∷ x) (list-is (spelling f) (spellings fs) (spelled f) (spelled_all fs) (λ x. spelled-is f x) (λ x. spelled_all-is fs x) r)
  spelled-is (at_least_of n f fs) r = ap (λ (x : List Token). Word words.AtLeast ∷ Open ∷ Number n ∷ Comma ∷ x) (list-is (spelling f) (spellings fs) (spelled f) (spelled_all fs) (λ x. spelled-is f x) (λ x. spelled_all-is fs x) r)
  spelled-is (conf_of f n) r = ap (λ (x : List Token). Word words.Conf ∷ Open ∷ x) (spelled-is f (Comma ∷ Number n ∷ Close ∷ r) ∙ sym (append_assoc (spelling f) (Comma ∷ Number n ∷ Close ∷ []) r))
  spelled-is (hold_of f n) r = ap (λ (x : List Token). Word words.Hold ∷ Open ∷ x) (spelled-is f (Comma ∷ Number n ∷ Close ∷ r) ∙ sym (append_assoc (spelling f) (Comma ∷ Number n ∷ Close ∷ []) r))
  spelled-is (latch_of f g) r = ap (λ (x : List Token). Word words.Latch ∷ Open ∷ x)
      (spelled-is f (Comma ∷ spelled g (Close ∷ r))
      ∙ ap (λ (x : List Token). spelling f ++ Comma ∷ x) (spelled-is g (Close ∷ r) ∙ sym (append_assoc (spelling g) (Close ∷ []) r))
      ∙ regroup-latch (spelling f) (spelling g) r)

  pub spelled_all-is : (fs : Forms) (r : List Token) → spelled_all fs r ≡ spellings fs ++ r
  spelled_all-is no_more r = refl
  spelled_all-is (and_then f fs) r = ap (λ (x : List Token). Comma ∷ x)
      (spelled-is f (spelled_all fs r) ∙ ap (λ (x : List Token). spelling f ++ x) (spelled_all-is fs r) ∙ sym (append_assoc (spelling f) (spellings fs) r))

-- the steps of further phases, before those that follow
abbrev pub phases_made : List Span → List Step → List Step
phases_made [] r = r
phases_made (n ∷ ns) r = steps.AlsoPhase n ∷ phases_made ns r

abbrev mutual
  -- the steps that a condition makes, before those that follow
  pub made : Form → List Step → List Step
  made (truth b) r = steps.Constant b ∷ r
  made (name_of n) r = steps.Named n ∷ r
  made (compare_of n op x) r = steps.Named n ∷ steps.Compared op x ∷ r
  made (valid_of n) r = steps.Valid n ∷ r
  made (phase_of n ns) r = steps.Phase n ∷ phases_made ns r
  made (alert_of n) r = steps.Alerted n ∷ r
  made (press_of key) r = steps.Pressed key ∷ r
  made (fwc_of n) r = steps.Computer n ∷ r
  made (not_of f) r = made f (steps.Negation ∷ r)
  made (rise_of f) r = made f (steps.Risen ∷ r)
  made (all_of f fs) r = made f (made_all fs (steps.Over lists.All (1 + how_many fs) ∷ r))
  made (any_of f fs) r = made f (made_all fs (steps.Over lists.Any (1 + how_many fs) ∷ r))
  made (at_least_of n f fs) r = made f (made_all fs (steps.Over (lists.AtLeast n) (1 + how_many fs) ∷ r))
  made (conf_of f n) r = made f (steps.Confirmed n ∷ r)
  made (hold_of f n) r = made f (steps.Held n ∷ r)
  made (latch_of f g) r = made f (made g (steps.Latched ∷ r))

  pub made_all : Forms → List Step → List Step
  made_all no_more r = r
  made_all (and_then f fs) r = made f (made_all fs r)

-- what completes one expectation
abbrev pub Piece : Expected → Type 0
Piece Condition = Form
Piece Tail = Option (Op × Span)
Piece Opening = Unit {0}
Piece Separator = Unit {0}
Piece Closing = Unit {0}
Piece (Finish step) = Unit {0}
Piece (AName role) = Span
Piece AKey = Key
Piece (ANumber role) = Span
Piece Least = Span × Form × Forms
Piece (Others list count) = Forms
Piece Phases = List Span

-- its tokens, before those that follow
abbrev pub piece_tokens : (e : Expected) → Piece e → List Token → List Token
piece_tokens Condition f r = spelled f r
piece_tokens Tail None r = r
piece_tokens Tail (Some c) r = Sign c.0 ∷ Number c.1 ∷ r
piece_tokens Opening p r = Open ∷ r
piece_tokens Separator p r = Comma ∷ r
piece_tokens Closing p r = Close ∷ r
piece_tokens (Finish step) p r = Close ∷ r
piece_tokens (AName role) n r = Name n ∷ r
piece_tokens AKey key r = KeyWord key ∷ r
piece_tokens (ANumber role) n r = Number n ∷ r
piece_tokens Least p r = Number p.0 ∷ Comma ∷ spelled p.1 (spelled_all p.2 (Close ∷ r))
piece_tokens (Others list count) fs r = spelled_all fs (Close ∷ r)
piece_tokens Phases ns r = numbers_then ns (Close ∷ r)

-- its steps, before those that follow
abbrev pub piece_steps : (e : Expected) → Piece e → List Step → List Step
piece_steps Condition f r = made f r
piece_steps Tail None r = r
piece_steps Tail (Some c) r = steps.Compared c.0 c.1 ∷ r
piece_steps Opening p r = r
piece_steps Separator p r = r
piece_steps Closing p r = r
piece_steps (Finish step) p r = step ∷ r
piece_steps (AName role) n r = name_step role n ∷ r
piece_steps AKey key r = steps.Pressed key ∷ r
piece_steps (ANumber role) n r = number_step role n ∷ r
piece_steps Least p r = made p.1 (made_all p.2 (steps.Over (lists.AtLeast p.0) (1 + how_many p.2) ∷ r))
piece_steps (Others list count) fs r = made_all fs (steps.Over list (count + how_many fs) ∷ r)
piece_steps Phases ns r = phases_made ns r

abbrev pub Pieces : List Expected → Type 0
Pieces [] = Unit {0}
Pieces (e ∷ s) = Piece e × Pieces s

abbrev pub stack_tokens : (s : List Expected) → Pieces s → List Token
stack_tokens [] p = []
stack_tokens (e ∷ s) p = piece_tokens e p.0 (stack_tokens s p.1)

abbrev pub stack_steps : (s : List Expected) → Pieces s → List Step
stack_steps [] p = []
stack_steps (e ∷ s) p = piece_steps e p.0 (stack_steps s p.1)

-- some pieces for each stack
abbrev pub some_span : Span
some_span = record { at = 0; end = 0 }

abbrev pub some_piece : (e : Expected) → Piece e
some_piece Condition = truth true
some_piece Tail = None
some_piece Opening = tt
some_piece Separator = tt
some_piece Closing = tt
some_piece (Finish step) = tt
some_piece (AName role) = some_span
some_piece AKey = Clr
some_piece (ANumber role) = some_span
some_piece Least = (some_span, truth true, no_more)
some_piece (Others list count) = no_more
some_piece Phases = []

abbrev pub some_pieces : (s : List Expected) → Pieces s
some_pieces [] = tt
some_pieces (e ∷ s) = (some_piece e, some_pieces s)
