-- A move takes the first token off the pieces that complete a stack, and whatever completes the stack after a
-- move completes the one before, with the token in front.
use Rattle.std.proofs.Common.{◌≡◌, ℕ, suc, ◌+◌, true, false, List, [], ◌∷◌, ◌++◌, Option, Some, None, refl, ap, subst, arith, add-zero}
use Rattle.ecam_spec.specs.declared.kinds.Op.{Op}
use Rattle.ecam_spec.specs.declared.terms.Span.{Span}
use Rattle.ecam_spec.specs.declared.terms.Reserved.{Reserved}
use Rattle.ecam_spec.specs.declared.terms.Reserved.TheVariants as words
use Rattle.ecam_spec.specs.declared.terms.Token.{Token}
use Rattle.ecam_spec.specs.declared.terms.Token.TheVariants.{Word, Name, KeyWord, Number, Sign, Open, Comma, Close, Stray}
use Rattle.ecam_spec.specs.declared.term_steps.Connective.{Connective}
use Rattle.ecam_spec.specs.declared.term_steps.Connective.TheVariants as lists
use Rattle.ecam_spec.specs.declared.term_steps.NumberRole.TheVariants as roles
use Rattle.ecam_spec.specs.declared.term_steps.Step.{Step}
use Rattle.ecam_spec.specs.declared.term_steps.Step.TheVariants as steps
use Rattle.ecam_spec.specs.declared.term_steps.Expected.{Expected}
use Rattle.ecam_spec.specs.declared.term_steps.Expected.TheVariants.{Condition, Tail, Opening, Separator, Closing, Finish, AName, AKey, ANumber, Least, Others, Phases}
use Rattle.ecam_spec.specs.Grammar.{Form, Forms, truth, name_of, compare_of, valid_of, phase_of, alert_of, press_of, fwc_of, not_of, rise_of, all_of, any_of, at_least_of, conf_of, hold_of, latch_of, no_more, and_then, how_many}
use Rattle.ecam_spec.proofs.TermReading.{rule, at_once, name_step, number_step, Move, next_move, is_whole}
use Rattle.ecam_spec.proofs.TermPieces.{made, made_all, Pieces, stack_tokens, stack_steps}

-- the pieces of a stack go on as a move from it says
pub record Goes (s : List Expected) (p : Pieces s) (t : Token) (ts : List Token) : Type 0 where
  pub move : Move
  pub is : next_move s t ≡ Some move
  pub rest : Pieces move.0
  pub tokens : stack_tokens move.0 rest ≡ ts
  pub steps : stack_steps s p ≡ move.1 ++ stack_steps move.0 rest

abbrev pub GoesOn : (s : List Expected) → Pieces s → List Token → Type 0
GoesOn s p [] = Unit {0}
GoesOn s p (t ∷ ts) = Goes s p t ts

-- the move of a comparison
abbrev number_after : Op → List Expected → Move
number_after op s = (ANumber (roles.Compared op) ∷ s, [])

-- a comparison that is the piece of some tail may be that of the tail above it
sign_below : (s : List Expected) (p : Pieces s) (op : Op) (ts : List Token) → Goes s p (Sign op) ts → Goes (Tail ∷ s) (None, p) (Sign op) ts
unfolding next_move
sign_below [] p op ts g = absurd (let e = g.is in cc)
sign_below (Condition ∷ s) p op ts g = absurd (let e = g.is in cc)
sign_below (Tail ∷ s) p op ts g =
    let same : Some (number_after op s) ≡ Some g.move = g.is in
    let e : number_after op s ≡ g.move = cc in
    subst
    (λ (m : Move). (rest : Pieces m.0) → stack_tokens m.0 rest ≡ ts → stack_steps (Tail ∷ s) p ≡ m.1 ++ stack_steps m.0 rest → Goes (Tail ∷ Tail ∷ s) (None, p) (Sign op) ts)
    e
    (λ rest found left. record { move = number_after op (Tail ∷ s); is = refl; rest = (rest.0, (None, rest.1)); tokens = found; steps = left })
    g.rest g.tokens g.steps
sign_below (Opening ∷ s) p op ts g = absurd (let e = g.is in cc)
sign_below (Separator ∷ s) p op ts g = absurd (let e = g.is in cc)
sign_below (Closing ∷ s) p op ts g = absurd (let e = g.is in cc)
sign_below (Finish step ∷ s) p op ts g = absurd (let e = g.is in cc)
sign_below (AName role ∷ s) p op ts g = absurd (let e = g.is in cc)
sign_below (AKey ∷ s) p op ts g = absurd (let e = g.is in cc)
sign_below (ANumber role ∷ s) p op ts g = absurd (let e = g.is in cc)
sign_below (Least ∷ s) p op ts g = absurd (let e = g.is in cc)
sign_below (Others list count ∷ s) p op ts g = absurd (let e = g.is in cc)
sign_below (Phases ∷ s) p op ts g = absurd (let e = g.is in cc)

-- where a tail has nothing, what follows it goes on
tail_nothing : (s : List Expected) (p : Pieces s) (ts : List Token) → GoesOn s p ts → GoesOn (Tail ∷ s) (None, p) ts
unfolding next_move
tail_nothing s p [] g = tt
tail_nothing s p (Sign op ∷ ts) g = sign_below s p op ts g
tail_nothing s p (Word w ∷ ts) g = record { move = g.move; is = g.is; rest = g.rest; tokens = g.tokens; steps = g.steps }
tail_nothing s p (Name n ∷ ts) g = record { move = g.move; is = g.is; rest = g.rest; tokens = g.tokens; steps = g.steps }
tail_nothing s p (KeyWord k ∷ ts) g = record { move = g.move; is = g.is; rest = g.rest; tokens = g.tokens; steps = g.steps }
tail_nothing s p (Number n ∷ ts) g = record { move = g.move; is = g.is; rest = g.rest; tokens = g.tokens; steps = g.steps }
tail_nothing s p (Open ∷ ts) g = record { move = g.move; is = g.is; rest = g.rest; tokens = g.tokens; steps = g.steps }
tail_nothing s p (Comma ∷ ts) g = record { move = g.move; is = g.is; rest = g.rest; tokens = g.tokens; steps = g.steps }
tail_nothing s p (Close ∷ ts) g = record { move = g.move; is = g.is; rest = g.rest; tokens = g.tokens; steps = g.steps }
tail_nothing s p (Stray ∷ ts) g = record { move = g.move; is = g.is; rest = g.rest; tokens = g.tokens; steps = g.steps }

-- the pieces of a list go on with one more
others_steps : (list : Connective) (count : ℕ) (f : Form) (fs : Forms) (r : List Step) → made f (made_all fs (steps.Over list (count + suc (how_many fs)) ∷ r)) ≡ made f (made_all fs (steps.Over list ((count + 1) + how_many fs) ∷ r))
others_steps list count f fs r =
    let e : count + suc (how_many fs) ≡ (count + 1) + how_many fs = omega arith in
    ap (λ (n : ℕ). made f (made_all fs (steps.Over list n ∷ r))) e

pub goes_on : (s : List Expected) (p : Pieces s) → GoesOn s p (stack_tokens s p)
unfolding next_move
goes_on [] p = tt
goes_on (Condition ∷ s) (truth true, q) = record { move = (rule words.True ++ s, at_once words.True); is = refl; rest = q; tokens = refl; steps = refl }
goes_on (Condition ∷ s) (truth false, q) = record { move = (rule words.False ++ s, at_once words.False); is = refl; rest = q; tokens = refl; steps = refl }
goes_on (Condition ∷ s) (name_of n, q) = record { move = (Tail ∷ s, steps.Named n ∷ []); is = refl; rest = (None, q); tokens = refl; steps = refl }
goes_on (Condition ∷ s) (compare_of n op x, q) = record { move = (Tail ∷ s, steps.Named n ∷ []); is = refl; rest = (Some (op, x), q); tokens = refl; steps = refl }
goes_on (Condition ∷ s) (valid_of n, q) = record { move = (rule words.Valid ++ s, at_once words.Valid); is = refl; rest = (tt, (n, (tt, q))); tokens = refl; steps = refl }
goes_on (Condition ∷ s) (phase_of n ns, q) = record { move = (rule words.Phase ++ s, at_once words.Phase); is = refl; rest = (tt, (n, (ns, q))); tokens = refl; steps = refl }
goes_on (Condition ∷ s) (alert_of n, q) = record { move = (rule words.Alert ++ s, at_once words.Alert); is = refl; rest = (tt, (n, (tt, q))); tokens = refl; steps = refl }
goes_on (Condition ∷ s) (press_of key, q) = record { move = (rule words.Press ++ s, at_once words.Press); is = refl; rest = (tt, (key, (tt, q))); tokens = refl; steps = refl }
goes_on (Condition ∷ s) (fwc_of n, q) = record { move = (rule words.Fwc ++ s, at_once words.Fwc); is = refl; rest = (tt, (n, (tt, q))); tokens = refl; steps = refl }
goes_on (Condition ∷ s) (not_of f, q) = record { move = (rule words.Not ++ s, at_once words.Not); is = refl; rest = (tt, (f, (tt, q))); tokens = refl; steps = refl }
goes_on (Condition ∷ s) (rise_of f, q) = record { move = (rule words.Rise ++ s, at_once words.Rise); is = refl; rest = (tt, (f, (tt, q))); tokens = refl; steps = refl }
goes_on (Condition ∷ s) (all_of f fs, q) = record { move = (rule words.All ++ s, at_once words.All); is = refl; rest = (tt, (f, (fs, q))); tokens = refl; steps = refl }
goes_on (Condition ∷ s) (any_of f fs, q) = record { move = (rule words.Any ++ s, at_once words.Any); is = refl; rest = (tt, (f, (fs, q))); tokens = refl; steps = refl }
goes_on (Condition ∷ s) (at_least_of n f fs, q) = record { move = (rule words.AtLeast ++ s, at_once words.AtLeast); is = refl; rest = (tt, ((n, f, fs), q)); tokens = refl; steps = refl }
goes_on (Condition ∷ s) (conf_of f n, q) = record { move = (rule words.Conf ++ s, at_once words.Conf); is = refl; rest = (tt, (f, (tt, (n, (tt, q))))); tokens = refl; steps = refl }
goes_on (Condition ∷ s) (hold_of f n, q) = record { move = (rule words.Hold ++ s, at_once words.Hold); is = refl; rest = (tt, (f, (tt, (n, (tt, q))))); tokens = refl; steps = refl }
goes_on (Condition ∷ s) (latch_of f g, q) = record { move = (rule words.Latch ++ s, at_once words.Latch); is = refl; rest = (tt, (f, (tt, (g, (tt, q))))); tokens = refl; steps = refl }
goes_on (Tail ∷ s) (None, q) = tail_nothing s q (stack_tokens s q) (goes_on s q)
goes_on (Tail ∷ s) (Some c, q) = record { move = number_after c.0 s; is = refl; rest = (c.1, q); tokens = refl; steps = refl }
goes_on (Opening ∷ s) (p, q) = record { move = (s, []); is = refl; rest = q; tokens = refl; steps = refl }
goes_on (Separator ∷ s) (p, q) = record { move = (s, []); is = refl; rest = q; tokens = refl; steps = refl }
goes_on (Closing ∷ s) (p, q) = record { move = (s, []); is = refl; rest = q; tokens = refl; steps = refl }
goes_on (Finish step ∷ s) (p, q) = record { move = (s, step ∷ []); is = refl; rest = q; tokens = refl; steps = refl }
goes_on (AName role ∷ s) (n, q) = record { move = (s, name_step role n ∷ []); is = refl; rest = q; tokens = refl; steps = refl }
goes_on (AKey ∷ s) (key, q) = record { move = (s, steps.Pressed key ∷ []); is = refl; rest = q; tokens = refl; steps = refl }
goes_on (ANumber role ∷ s) (n, q) = record { move = (s, number_step role n ∷ []); is = refl; rest = q; tokens = refl; steps = refl }
goes_on (Least ∷ s) (p, q) = record { move = (Separator ∷ Condition ∷ Others (lists.AtLeast p.0) 1 ∷ s, []); is = refl; rest = (tt, (p.1, (p.2, q))); tokens = refl; steps = refl }
goes_on (Others list count ∷ s) (no_more, q) = record { move = (s, steps.Over list count ∷ []); is = refl; rest = q; tokens = refl; steps = ap (λ (n : ℕ). steps.Over list n ∷ stack_steps s q) (add-zero count) }
goes_on (Others list count ∷ s) (and_then f fs, q) = record { move = (Condition ∷ Others list (count + 1) ∷ s, []); is = refl; rest = (f, (fs, q)); tokens = refl; steps = others_steps list count f fs (stack_steps s q) }
goes_on (Phases ∷ s) ([], q) = record { move = (s, []); is = refl; rest = q; tokens = refl; steps = refl }
goes_on (Phases ∷ s) (n ∷ ns, q) = record { move = (ANumber roles.AlsoPhase ∷ Phases ∷ s, []); is = refl; rest = (n, (ns, q)); tokens = refl; steps = refl }

-- pieces of a stack whose first token and steps are a move's, and whose others are those of these pieces
pub record Completes (s : List Expected) (t : Token) (move : Move) (rest : Pieces move.0) : Type 0 where
  pub pieces : Pieces s
  pub tokens : stack_tokens s pieces ≡ t ∷ stack_tokens move.0 rest
  pub steps : stack_steps s pieces ≡ move.1 ++ stack_steps move.0 rest

abbrev pub Completed : List Expected → Token → Option Move → Type 0
Completed s t None = Unit {0}
Completed s t (Some move) = (rest : Pieces move.0) → Completes s t move rest

tail_completed : (s : List Expected) (t : Token) (m : Option Move) → Completed s t m → Completed (Tail ∷ s) t m
tail_completed s t None h = tt
tail_completed s t (Some move) h = λ rest. let c = h rest in record { pieces = (None, c.pieces); tokens = c.tokens; steps = c.steps }

word_completed : (s : List Expected) (w : Reserved) → Completed (Condition ∷ s) (Word w) (Some (rule w ++ s, at_once w))
word_completed s words.True = λ q. record { pieces = (truth true, q); tokens = refl; steps = refl }
word_completed s words.False = λ q. record { pieces = (truth false, q); tokens = refl; steps = refl }
word_completed s words.Valid = λ q. record { pieces = (valid_of q.1.0, q.1.1.1); tokens = refl; steps = refl }
word_completed s words.Phase = λ q. record { pieces = (phase_of q.1.0 q.1.1.0, q.1.1.1); tokens = refl; steps = refl }
word_completed s words.Alert = λ q. record { pieces = (alert_of q.1.0, q.1.1.1); tokens = refl; steps = refl }
word_completed s words.Press = λ q. record { pieces = (press_of q.1.0, q.1.1.1); tokens = refl; steps = refl }
word_completed s words.Fwc = λ q. record { pieces = (fwc_of q.1.0, q.1.1.1); tokens = refl; steps = refl }
word_completed s words.Not = λ q. record { pieces = (not_of q.1.0, q.1.1.1); tokens = refl; steps = refl }
word_completed s words.Rise = λ q. record { pieces = (rise_of q.1.0, q.1.1.1); tokens = refl; steps = refl }
word_completed s words.All = λ q. record { pieces = (all_of q.1.0 q.1.1.0, q.1.1.1); tokens = refl; steps = refl }
word_completed s words.Any = λ q. record { pieces = (any_of q.1.0 q.1.1.0, q.1.1.1); tokens = refl; steps = refl }
word_completed s words.AtLeast = λ q. record { pieces = (at_least_of q.1.0.0 q.1.0.1 q.1.0.2, q.1.1); tokens = refl; steps = refl }
word_completed s words.Conf = λ q. record { pieces = (conf_of q.1.0 q.1.1.1.0, q.1.1.1.1.1); tokens = refl; steps = refl }
word_completed s words.Hold = λ q. record { pieces = (hold_of q.1.0 q.1.1.1.0, q.1.1.1.1.1); tokens = refl; steps = refl }
word_completed s words.Latch = λ q. record { pieces = (latch_of q.1.0 q.1.1.1.0, q.1.1.1.1.1); tokens = refl; steps = refl }

name_completed : (s : List Expected) (n : Span) (rest : Pieces (Tail ∷ s)) → Completes (Condition ∷ s) (Name n) (Tail ∷ s, steps.Named n ∷ []) rest
name_completed s n (None, q) = record { pieces = (name_of n, q); tokens = refl; steps = refl }
name_completed s n (Some c, q) = record { pieces = (compare_of n c.0 c.1, q); tokens = refl; steps = refl }

-- whatever completes a stack after a move completes it before
pub completed : (s : List Expected) (t : Token) → Completed s t (next_move s t)
unfolding next_move
completed [] t = tt
completed (Condition ∷ s) (Word w) = word_completed s w
completed (Condition ∷ s) (Name n) = name_completed s n
completed (Condition ∷ s) _ = tt
completed (Tail ∷ s) (Sign op) = λ rest. record { pieces = (Some (op, rest.0), rest.1); tokens = refl; steps = refl }
completed (Tail ∷ s) t = tail_completed s t (next_move s t) (completed s t)
completed (Opening ∷ s) Open = λ rest. record { pieces = (tt, rest); tokens = refl; steps = refl }
completed (Opening ∷ s) _ = tt
completed (Separator ∷ s) Comma = λ rest. record { pieces = (tt, rest); tokens = refl; steps = refl }
completed (Separator ∷ s) _ = tt
completed (Closing ∷ s) Close = λ rest. record { pieces = (tt, rest); tokens = refl; steps = refl }
completed (Closing ∷ s) _ = tt
completed (Finish step ∷ s) Close = λ rest. record { pieces = (tt, rest); tokens = refl; steps = refl }
completed (Finish step ∷ s) _ = tt
completed (AName role ∷ s) (Name n) = λ rest. record { pieces = (n, rest); tokens = refl; steps = refl }
completed (AName role ∷ s) _ = tt
completed (AKey ∷ s) (KeyWord key) = λ rest. record { pieces = (key, rest); tokens = refl; steps = refl }
completed (AKey ∷ s) _ = tt
completed (ANumber role ∷ s) (Number n) = λ rest. record { pieces = (n, rest); tokens = refl; steps = refl }
completed (ANumber role ∷ s) _ = tt
completed (Least ∷ s) (Number n) = λ rest. record { pieces = ((n, rest.1.0, rest.1.1.0), rest.1.1.1); tokens = refl; steps = refl }
completed (Least ∷ s) _ = tt
completed (Others list count ∷ s) Comma = λ rest. record { pieces = (and_then rest.0 rest.1.0, rest.1.1); tokens = refl; steps = others_steps list count rest.0 rest.1.0 (stack_steps s rest.1.1) }
completed (Others list count ∷ s) Close = λ rest. record { pieces = (no_more, rest); tokens = refl; steps = ap (λ (n : ℕ). steps.Over list n ∷ stack_steps s rest) (add-zero count) }
completed (Others list count ∷ s) _ = tt
completed (Phases ∷ s) Comma = λ rest. record { pieces = (rest.0 ∷ rest.1.0, rest.1.1); tokens = refl; steps = refl }
completed (Phases ∷ s) Close = λ rest. record { pieces = ([], rest); tokens = refl; steps = refl }
completed (Phases ∷ s) _ = tt

-- a stack of which nothing more is needed has pieces without tokens
pub record Nothing (s : List Expected) : Type 0 where
  pub pieces : Pieces s
  pub tokens : stack_tokens s pieces ≡ []
  pub steps : stack_steps s pieces ≡ []

pub whole : (s : List Expected) → is_whole s ≡ true → Nothing s
unfolding is_whole
whole [] h = record { pieces = tt; tokens = refl; steps = refl }
whole (Tail ∷ s) h = let n = whole s h in record { pieces = (None, n.pieces); tokens = n.tokens; steps = n.steps }
whole (Condition ∷ s) h = absurd cc
whole (Opening ∷ s) h = absurd cc
whole (Separator ∷ s) h = absurd cc
whole (Closing ∷ s) h = absurd cc
whole (Finish step ∷ s) h = absurd cc
whole (AName role ∷ s) h = absurd cc
whole (AKey ∷ s) h = absurd cc
whole (ANumber role ∷ s) h = absurd cc
whole (Least ∷ s) h = absurd cc
whole (Others list count ∷ s) h = absurd cc
whole (Phases ∷ s) h = absurd cc

-- pieces without tokens are those of a stack of which nothing more is needed, and make no steps
abbrev WholeOf : (s : List Expected) → Pieces s → List Token → Type 0
WholeOf s p [] = (is_whole s ≡ true) × (stack_steps s p ≡ [])
WholeOf s p (t ∷ ts) = Unit {0}

tail_whole : (s : List Expected) (p : Pieces s) (ts : List Token) → WholeOf s p ts → WholeOf (Tail ∷ s) (None, p) ts
unfolding is_whole
tail_whole s p [] h = (h.0, h.1)
tail_whole s p (t ∷ ts) h = tt

whole_of : (s : List Expected) (p : Pieces s) → WholeOf s p (stack_tokens s p)
unfolding is_whole
whole_of [] p = (refl, refl)
whole_of (Tail ∷ s) (None, q) = tail_whole s q (stack_tokens s q) (whole_of s q)
whole_of (Tail ∷ s) (Some c, q) = tt
whole_of (Condition ∷ s) (truth true, q) = tt
whole_of (Condition ∷ s) (truth false, q) = tt
whole_of (Condition ∷ s) (name_of n, q) = tt
whole_of (Condition ∷ s) (compare_of n op x, q) = tt
whole_of (Condition ∷ s) (valid_of n, q) = tt
whole_of (Condition ∷ s) (phase_of n ns, q) = tt
whole_of (Condition ∷ s) (alert_of n, q) = tt
whole_of (Condition ∷ s) (press_of key, q) = tt
whole_of (Condition ∷ s) (fwc_of n, q) = tt
whole_of (Condition ∷ s) (not_of f, q) = tt
whole_of (Condition ∷ s) (rise_of f, q) = tt
whole_of (Condition ∷ s) (all_of f fs, q) = tt
whole_of (Condition ∷ s) (any_of f fs, q) = tt
whole_of (Condition ∷ s) (at_least_of n f fs, q) = tt
whole_of (Condition ∷ s) (conf_of f n, q) = tt
whole_of (Condition ∷ s) (hold_of f n, q) = tt
whole_of (Condition ∷ s) (latch_of f g, q) = tt
whole_of (Opening ∷ s) (p, q) = tt
whole_of (Separator ∷ s) (p, q) = tt
whole_of (Closing ∷ s) (p, q) = tt
whole_of (Finish step ∷ s) (p, q) = tt
whole_of (AName role ∷ s) (p, q) = tt
whole_of (AKey ∷ s) (p, q) = tt
whole_of (ANumber role ∷ s) (p, q) = tt
whole_of (Least ∷ s) (p, q) = tt
whole_of (Others list count ∷ s) (no_more, q) = tt
whole_of (Others list count ∷ s) (and_then f fs, q) = tt
whole_of (Phases ∷ s) ([], q) = tt
whole_of (Phases ∷ s) (n ∷ ns, q) = tt

pub whole_from : (s : List Expected) (p : Pieces s) → stack_tokens s p ≡ [] → (is_whole s ≡ true) × (stack_steps s p ≡ [])
whole_from s p e = subst (WholeOf s p) e (whole_of s p)

-- pieces whose first token is known go on with it
pub goes : (s : List Expected) (p : Pieces s) (t : Token) (ts : List Token) → stack_tokens s p ≡ t ∷ ts → Goes s p t ts
goes s p t ts e = subst (GoesOn s p) e (goes_on s p)
