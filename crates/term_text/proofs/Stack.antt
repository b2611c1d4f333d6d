-- What is expected, as a list of which the last is the next.
use Rattle.std.proofs.Common.{◌≡◌, ℕ, suc, ◌≤◌, Bool, true, false, ◌&&◌, List, [], ◌∷◌, ◌++◌, length, Option, Some, None, refl, sym, ap, ◌∙◌, subst, arith}
use Rattle.std.proofs.lemmas.List.{reverse-append}
use Rattle.std.proofs.lemmas.List.Folds.{list_all-append}
use Rattle.std.proofs.lemmas.Grind.{reverse_onto}
use Rattle.std.specs.Prelude.{reverse}
use Rattle.std.specs.List.{list_all}
use Rattle.ecam_spec.specs.declared.terms.Reserved.{Reserved}
use Rattle.ecam_spec.specs.declared.terms.Reserved.TheVariants as words
use Rattle.ecam_spec.specs.declared.terms.Token.{Token}
use Rattle.ecam_spec.specs.declared.terms.Token.TheVariants.{Word, Name, KeyWord, Number, Sign, Open, Comma, Close, Stray}
use Rattle.ecam_spec.specs.declared.term_steps.Step.{Step}
use Rattle.ecam_spec.specs.declared.term_steps.Expected.{Expected}
use Rattle.ecam_spec.specs.declared.term_steps.Expected.TheVariants.{Condition, Tail, Opening, Separator, Closing, Finish, AName, AKey, ANumber, Least, Others, Phases}
use Rattle.ecam_spec.proofs.TermReading.{rule, Move, next_move, is_whole}
use Rattle.term_text.specs.Pending.{is_tail, is_sign, count_of, CountsWithin}

-- what stands last is next
pub taken : (xs ys : List Expected) (e : Expected) → xs ≡ ys ++ e ∷ [] → reverse xs ≡ e ∷ reverse ys
taken xs ys e h = ap reverse h ∙ reverse-append ys (e ∷ [])

-- a comparison that isn't there is passed over
pub passed : (e : Expected) (s : List Expected) (t : Token) → is_tail e ≡ true → is_sign t ≡ false → next_move (e ∷ s) t ≡ next_move s t
unfolding next_move
passed Tail s (Word w) tail sign = refl
passed Tail s (Name n) tail sign = refl
passed Tail s (KeyWord k) tail sign = refl
passed Tail s (Number n) tail sign = refl
passed Tail s (Sign op) tail sign = absurd cc
passed Tail s Open tail sign = refl
passed Tail s Comma tail sign = refl
passed Tail s Close tail sign = refl
passed Tail s Stray tail sign = refl
passed Condition s t tail sign = absurd cc
passed Opening s t tail sign = absurd cc
passed Separator s t tail sign = absurd cc
passed Closing s t tail sign = absurd cc
passed (Finish step) s t tail sign = absurd cc
passed (AName role) s t tail sign = absurd cc
passed AKey s t tail sign = absurd cc
passed (ANumber role) s t tail sign = absurd cc
passed Least s t tail sign = absurd cc
passed (Others list count) s t tail sign = absurd cc
passed Phases s t tail sign = absurd cc

-- ---- the counts of lists

pub counts_up : (m n : ℕ) (s : List Expected) → m ≤ n → CountsWithin m s → CountsWithin n s
counts_up m n [] up h = tt
counts_up m n (e ∷ s) up h =
    let first : count_of e ≤ m = h.0 in
    (omega arith, counts_up m n s up h.1)

counts_more : (n : ℕ) (s : List Expected) → CountsWithin n s → CountsWithin (suc n) s
counts_more n s h = counts_up n (suc n) s (omega arith) h

rule_counts : (n : ℕ) (w : Reserved) (s : List Expected) → CountsWithin (suc n) s → CountsWithin (suc n) (rule w ++ s)
rule_counts n words.True s h = h
rule_counts n words.False s h = h
rule_counts n words.Valid s h = (omega arith, (omega arith, (omega arith, h)))
rule_counts n words.Phase s h = (omega arith, (omega arith, (omega arith, h)))
rule_counts n words.Alert s h = (omega arith, (omega arith, (omega arith, h)))
rule_counts n words.Press s h = (omega arith, (omega arith, (omega arith, h)))
rule_counts n words.Fwc s h = (omega arith, (omega arith, (omega arith, h)))
rule_counts n words.Not s h = (omega arith, (omega arith, (omega arith, h)))
rule_counts n words.Rise s h = (omega arith, (omega arith, (omega arith, h)))
rule_counts n words.All s h = (omega arith, (omega arith, (omega arith, h)))
rule_counts n words.Any s h = (omega arith, (omega arith, (omega arith, h)))
rule_counts n words.AtLeast s h = (omega arith, (omega arith, h))
rule_counts n words.Conf s h = (omega arith, (omega arith, (omega arith, (omega arith, (omega arith, h)))))
rule_counts n words.Hold s h = (omega arith, (omega arith, (omega arith, (omega arith, (omega arith, h)))))
rule_counts n words.Latch s h = (omega arith, (omega arith, (omega arith, (omega arith, (omega arith, h)))))

abbrev MoveCounts : ℕ → Option Move → Type 0
MoveCounts n None = Unit {0}
MoveCounts n (Some move) = CountsWithin (suc n) move.0

move_counts : (n : ℕ) (s : List Expected) (t : Token) → CountsWithin n s → MoveCounts n (next_move s t)
unfolding next_move
move_counts n [] t h = tt
move_counts n (Condition ∷ s) (Word w) h = rule_counts n w s (counts_more n s h.1)
move_counts n (Condition ∷ s) (Name x) h = (omega arith, counts_more n s h.1)
move_counts n (Condition ∷ s) _ h = tt
move_counts n (Tail ∷ s) (Sign op) h = (omega arith, counts_more n s h.1)
move_counts n (Tail ∷ s) t h = move_counts n s t h.1
move_counts n (Opening ∷ s) Open h = counts_more n s h.1
move_counts n (Opening ∷ s) _ h = tt
move_counts n (Separator ∷ s) Comma h = counts_more n s h.1
move_counts n (Separator ∷ s) _ h = tt
move_counts n (Closing ∷ s) Close h = counts_more n s h.1
move_counts n (Closing ∷ s) _ h = tt
move_counts n (Finish step ∷ s) Close h = counts_more n s h.1
move_counts n (Finish step ∷ s) _ h = tt
move_counts n (AName role ∷ s) (Name x) h = counts_more n s h.1
move_counts n (AName role ∷ s) _ h = tt
move_counts n (AKey ∷ s) (KeyWord key) h = counts_more n s h.1
move_counts n (AKey ∷ s) _ h = tt
move_counts n (ANumber role ∷ s) (Number x) h = counts_more n s h.1
move_counts n (ANumber role ∷ s) _ h = tt
move_counts n (Least ∷ s) (Number x) h = (omega arith, (omega arith, (omega arith, counts_more n s h.1)))
move_counts n (Least ∷ s) _ h = tt
move_counts n (Others list count ∷ s) Comma h =
    let few : count ≤ n = h.0 in
    (omega arith, (omega arith, counts_more n s h.1))
move_counts n (Others list count ∷ s) Close h = counts_more n s h.1
move_counts n (Others list count ∷ s) _ h = tt
move_counts n (Phases ∷ s) Comma h = (omega arith, (omega arith, counts_more n s h.1))
move_counts n (Phases ∷ s) Close h = counts_more n s h.1
move_counts n (Phases ∷ s) _ h = tt

-- a list grows by at most one with each token
pub counts_next : (n : ℕ) (s : List Expected) (t : Token) (rest : List Expected) (made : List Step) → next_move s t ≡ Some (rest, made) → CountsWithin n s → CountsWithin (suc n) rest
counts_next n s t rest made e h = subst (MoveCounts n) e (move_counts n s t h)

-- ---- nothing more is needed

whole_is : (s : List Expected) → is_whole s ≡ list_all is_tail s
unfolding is_whole
whole_is [] = refl
whole_is (Tail ∷ s) = whole_is s
whole_is (Condition ∷ s) = refl
whole_is (Opening ∷ s) = refl
whole_is (Separator ∷ s) = refl
whole_is (Closing ∷ s) = refl
whole_is (Finish step ∷ s) = refl
whole_is (AName role ∷ s) = refl
whole_is (AKey ∷ s) = refl
whole_is (ANumber role ∷ s) = refl
whole_is (Least ∷ s) = refl
whole_is (Others list count ∷ s) = refl
whole_is (Phases ∷ s) = refl

and-back : (a b : Bool) → (a && b) ≡ (b && (a && true))
and-back true true = refl
and-back true false = refl
and-back false true = refl
and-back false false = refl

all_back : (s : List Expected) → list_all is_tail s ≡ list_all is_tail (reverse s)
all_back [] = refl
all_back (x ∷ s) =
    ap (λ b. is_tail x && b) (all_back s)
    ∙ and-back (is_tail x) (list_all is_tail (reverse s))
    ∙ sym (list_all-append is_tail (reverse s) (x ∷ []))
    ∙ ap (list_all is_tail) (sym (reverse_onto s x []))

pub whole_back : (s : List Expected) → is_whole (reverse s) ≡ list_all is_tail s
whole_back s = whole_is (reverse s) ∙ sym (all_back s)

-- ---- nothing is expected

empty : (s : List Expected) → length s ≡ 0 → s ≡ []
empty [] h = refl
empty (x ∷ s) h = absurd (omega arith)

pub none_expected : (s : List Expected) (t : Token) → length s ≡ 0 → next_move (reverse s) t ≡ None
unfolding next_move
none_expected s t h = ap (λ (x : List Expected). next_move (reverse x) t) (empty s h)
