-- What the reading of a text's tokens says: it ends well exactly where the tokens complete the stack, and else
-- stops at the first token that fits nowhere.
use Rattle.std.proofs.Common.{◌≡◌, ◌⊎◌, inl, inr, ℕ, Bool, true, false, List, [], ◌∷◌, ◌++◌, Option, Some, None, Result, Ok, Err, refl, sym, ap, ◌∙◌, subst}
use Rattle.ecam_spec.specs.declared.terms.Token.{Token}
use Rattle.ecam_spec.specs.declared.term_steps.Step.{Step}
use Rattle.ecam_spec.specs.declared.term_steps.Expected.{Expected}
use Rattle.ecam_spec.specs.Token.{Placed}
use Rattle.ecam_spec.specs.TermVerdict.{words_of}
use Rattle.ecam_spec.proofs.TermReading.{Move, next_move, is_whole, after_steps, read_on, reading}
use Rattle.ecam_spec.proofs.TermPieces.{Pieces, stack_tokens, stack_steps, some_pieces}
use Rattle.ecam_spec.proofs.TermMoves.{goes, Completes, Completed, completed, whole, whole_from}

-- the tokens complete a stack, and make these steps
abbrev pub Reads : List Expected → List Token → List Step → Type 0
Reads s ws ss = (p : Pieces s) × (stack_tokens s p ≡ ws) × (stack_steps s p ≡ ss)

-- what completes the stack may begin with these tokens
abbrev pub BeginsStack : List Expected → List Token → Type 0
BeginsStack s ws = (p : Pieces s) × (rest : List Token) × (stack_tokens s p ≡ ws ++ rest)

pub record StopsThere (s : List Expected) (ts : List Placed) (at : ℕ) : Type 0 where
  pub before : List Placed
  pub token : Token
  pub after : List Placed
  pub split : ts ≡ before ++ (at, token) ∷ after
  pub begins : BeginsStack s (words_of before)
  pub ends : BeginsStack s (words_of before ++ token ∷ []) → ⊥

pub record EndsEarly (s : List Expected) (ts : List Placed) : Type 0 where
  pub begins : BeginsStack s (words_of ts)
  pub short : (p : Pieces s) → stack_tokens s p ≡ words_of ts → ⊥

abbrev pub Stops : ℕ → List Expected → List Placed → ℕ → Type 0
Stops end s ts at = StopsThere s ts at ⊎ (EndsEarly s ts × (at ≡ end))

abbrev pub ReadingIs : ℕ → List Expected → List Placed → Result (List Step) ℕ → Type 0
ReadingIs end s ts (Ok ss) = Reads s (words_of ts) ss
ReadingIs end s ts (Err at) = Stops end s ts at

begins_with_nothing : (s : List Expected) → BeginsStack s []
begins_with_nothing s = (some_pieces s, stack_tokens s (some_pieces s), refl)

complete : (s : List Expected) (t : Token) (move : Move) (e : next_move s t ≡ Some move) (rest : Pieces move.0) → Completes s t move rest
complete s t move e rest = (subst (Completed s t) e (completed s t)) rest

-- what may follow a move, and what may come with its token in front
begins_after : (s : List Expected) (t : Token) (move : Move) (ws : List Token) → next_move s t ≡ Some move → BeginsStack s (t ∷ ws) → BeginsStack move.0 ws
begins_after s t move ws e b =
    let g = goes s b.0 t (ws ++ b.1) b.2 in
    let is : next_move s t ≡ Some g.move = g.is in
    let same : g.move ≡ move = cc in
    subst (λ (m : Move). BeginsStack m.0 ws) same (g.rest, b.1, g.tokens)

begins_before : (s : List Expected) (t : Token) (move : Move) (ws : List Token) → next_move s t ≡ Some move → BeginsStack move.0 ws → BeginsStack s (t ∷ ws)
begins_before s t move ws e b =
    let c = complete s t move e b.0 in
    (c.pieces, b.1, c.tokens ∙ ap (λ (x : List Token). t ∷ x) b.2)

reads_after : (s : List Expected) (t : Token) (move : Move) (ws : List Token) → next_move s t ≡ Some move → (p : Pieces s) → stack_tokens s p ≡ t ∷ ws → (q : Pieces move.0) × (stack_tokens move.0 q ≡ ws) × (stack_steps s p ≡ move.1 ++ stack_steps move.0 q)
reads_after s t move ws e p h =
    let g = goes s p t ws h in
    let is : next_move s t ≡ Some g.move = g.is in
    let same : g.move ≡ move = cc in
    subst (λ (m : Move). (q : Pieces m.0) × (stack_tokens m.0 q ≡ ws) × (stack_steps s p ≡ m.1 ++ stack_steps m.0 q)) same (g.rest, g.tokens, g.steps)

no_move : (s : List Expected) (t : Token) (ws : List Token) → next_move s t ≡ None → BeginsStack s (t ∷ ws) → ⊥
no_move s t ws e b =
    let g = goes s b.0 t (ws ++ b.1) b.2 in
    let is : next_move s t ≡ Some g.move = g.is in
    cc

at_end : (end : ℕ) (s : List Expected) (b : Bool) → is_whole s ≡ b → ReadingIs end s [] (elim b [ true ↦ Ok [] | false ↦ Err end ])
at_end end s true h = let n = whole s h in (n.pieces, n.tokens, n.steps)
at_end end s false h = inr (record { begins = begins_with_nothing s; short = λ p e. let w : is_whole s ≡ true = (whole_from s p e).0 in cc }, refl)

stopped_before : (end : ℕ) (s : List Expected) (at : ℕ) (t : Token) (ts : List Placed) (move : Move) → next_move s t ≡ Some move → (place : ℕ) → Stops end move.0 ts place → Stops end s ((at, t) ∷ ts) place
stopped_before end s at t ts move e place (inl h) = inl (record {
  before = (at, t) ∷ h.before;
  token = h.token;
  after = h.after;
  split = ap (λ (x : List Placed). (at, t) ∷ x) h.split;
  begins = begins_before s t move (words_of h.before) e h.begins;
  ends = λ b. h.ends (begins_after s t move (words_of h.before ++ h.token ∷ []) e b);
})
stopped_before end s at t ts move e place (inr h) = inr (
  record {
    begins = begins_before s t move (words_of ts) e h.0.begins;
    short = λ p found. let r = reads_after s t move (words_of ts) e p found in h.0.short r.0 r.1;
  },
  h.1,
)

moved : (end : ℕ) (s : List Expected) (at : ℕ) (t : Token) (ts : List Placed) (move : Move) → next_move s t ≡ Some move → (r : Result (List Step) ℕ) → ReadingIs end move.0 ts r → ReadingIs end s ((at, t) ∷ ts) (after_steps move.1 r)
moved end s at t ts move e (Ok ss) h =
    let c = complete s t move e h.0 in
    (c.pieces, c.tokens ∙ ap (λ (x : List Token). t ∷ x) h.1, c.steps ∙ ap (λ (x : List Step). move.1 ++ x) h.2)
moved end s at t ts move e (Err place) h = stopped_before end s at t ts move e place h

one_token : (end : ℕ) (s : List Expected) (at : ℕ) (t : Token) (ts : List Placed) (m : Option Move) → next_move s t ≡ m → ((rest : List Expected) → ReadingIs end rest ts (reading end rest ts)) → ReadingIs end s ((at, t) ∷ ts) (read_on at m (λ rest. reading end rest ts))
one_token end s at t ts None e later = inl (record { before = []; token = t; after = ts; split = refl; begins = begins_with_nothing s; ends = λ b. no_move s t [] e b })
one_token end s at t ts (Some move) e later = moved end s at t ts move e (reading end move.0 ts) (later move.0)

-- what the reading answers is so
pub reading_is : (end : ℕ) (s : List Expected) (ts : List Placed) → ReadingIs end s ts (reading end s ts)
unfolding reading
reading_is end s [] = at_end end s (is_whole s) refl
reading_is end s ((at, t) ∷ ts) = one_token end s at t ts (next_move s t) refl (λ rest. reading_is end rest ts)

-- what completes the stack is read so
pub reading_of_pieces : (end : ℕ) (ts : List Placed) (s : List Expected) (p : Pieces s) → stack_tokens s p ≡ words_of ts → reading end s ts ≡ Ok (stack_steps s p)
unfolding reading
reading_of_pieces end [] s p e =
    let w = whole_from s p e in
    let ends : is_whole s ≡ true = w.0 in
    let none : stack_steps s p ≡ [] = w.1 in
    ap (λ (b : Bool). elim b as (λ v. Result (List Step) ℕ) [ true ↦ Ok [] | false ↦ Err end ]) ends ∙ ap (λ (x : List Step). Ok x) (sym none)
reading_of_pieces end ((at, t) ∷ ts) s p e =
    let g = goes s p t (words_of ts) e in
    ap (λ (m : Option Move). read_on at m (λ rest. reading end rest ts)) g.is
    ∙ ap (λ (r : Result (List Step) ℕ). after_steps g.move.1 r) (reading_of_pieces end ts g.move.0 g.rest g.tokens)
    ∙ ap (λ (x : List Step). Ok x) (sym g.steps)

abbrev head_place : List Placed → ℕ
head_place [] = 0
head_place (x ∷ xs) = x.0

abbrev head_token : Token → List Placed → Token
head_token d [] = d
head_token d (x ∷ xs) = x.1

abbrev others : List Placed → List Placed
others [] = []
others (x ∷ xs) = xs

none_found : (s : List Expected) (at : ℕ) (t : Token) (ts : List Placed) (place : ℕ) → next_move s t ≡ None → (before : List Placed) (token : Token) (after : List Placed) → (at, t) ∷ ts ≡ before ++ (place, token) ∷ after → BeginsStack s (words_of before) → at ≡ place
none_found s at t ts place e [] token after split begins = ap head_place split
none_found s at t ts place e (b ∷ before) token after split begins =
    let same : t ≡ b.1 = ap (head_token t) split in
    absurd (no_move s t (words_of before) e (subst (λ (x : Token). BeginsStack s (x ∷ words_of before)) (sym same) begins))

there_after : (s : List Expected) (at : ℕ) (t : Token) (ts : List Placed) (move : Move) → next_move s t ≡ Some move → (place : ℕ) (before : List Placed) (token : Token) (after : List Placed) → (at, t) ∷ ts ≡ before ++ (place, token) ∷ after → BeginsStack s (words_of before) → (BeginsStack s (words_of before ++ token ∷ []) → ⊥) → StopsThere move.0 ts place
there_after s at t ts move e place [] token after split begins ends =
    let same : t ≡ token = ap (head_token t) split in
    absurd (ends (subst (λ (x : Token). BeginsStack s (x ∷ [])) same (begins_before s t move [] e (begins_with_nothing move.0))))
there_after s at t ts move e place (b ∷ before) token after split begins ends =
    let same : t ≡ b.1 = ap (head_token t) split in
    record {
      before = before;
      token = token;
      after = after;
      split = ap others split;
      begins = begins_after s t move (words_of before) e (subst (λ (x : Token). BeginsStack s (x ∷ words_of before)) (sym same) begins);
      ends = λ h. ends (subst (λ (x : Token). BeginsStack s (x ∷ words_of before ++ token ∷ [])) same (begins_before s t move (words_of before ++ token ∷ []) e h));
    }

stopped_after : (end : ℕ) (s : List Expected) (at : ℕ) (t : Token) (ts : List Placed) (move : Move) → next_move s t ≡ Some move → (place : ℕ) → Stops end s ((at, t) ∷ ts) place → Stops end move.0 ts place
stopped_after end s at t ts move e place (inl h) = inl (there_after s at t ts move e place h.before h.token h.after h.split h.begins h.ends)
stopped_after end s at t ts move e place (inr h) = inr (
  record {
    begins = begins_after s t move (words_of ts) e h.0.begins;
    short = λ q found. let c = complete s t move e q in h.0.short c.pieces (c.tokens ∙ ap (λ (x : List Token). t ∷ x) found);
  },
  h.1,
)

-- where the tokens stop, the reading says so
stopped_found : (end : ℕ) (s : List Expected) (at : ℕ) (t : Token) (ts : List Placed) (place : ℕ) (m : Option Move) → next_move s t ≡ m → ((rest : List Expected) → Stops end rest ts place → reading end rest ts ≡ Err place) → Stops end s ((at, t) ∷ ts) place → read_on at m (λ rest. reading end rest ts) ≡ Err place
stopped_found end s at t ts place None e later (inl h) = ap (λ (x : ℕ). Err x) (none_found s at t ts place e h.before h.token h.after h.split h.begins)
stopped_found end s at t ts place None e later (inr h) = absurd (no_move s t (words_of ts) e h.0.begins)
stopped_found end s at t ts place (Some move) e later stop =
    ap (λ (r : Result (List Step) ℕ). after_steps move.1 r) (later move.0 (stopped_after end s at t ts move e place stop))

not_in_nothing : (x : Placed) (after : List Placed) (before : List Placed) → [] ≡ before ++ x ∷ after → ⊥
not_in_nothing x after [] e = cc
not_in_nothing x after (b ∷ before) e = cc

early_end : (end : ℕ) (s : List Expected) (place : ℕ) (b : Bool) → is_whole s ≡ b → ((p : Pieces s) → stack_tokens s p ≡ [] → ⊥) → place ≡ end → elim b as (λ v. Result (List Step) ℕ) [ true ↦ Ok [] | false ↦ Err end ] ≡ Err place
early_end end s place true h short e = let n = whole s h in absurd (short n.pieces n.tokens)
early_end end s place false h short e = ap (λ (x : ℕ). Err x) (sym e)

pub reading_of_stop : (end : ℕ) (ts : List Placed) (s : List Expected) (place : ℕ) → Stops end s ts place → reading end s ts ≡ Err place
unfolding reading
reading_of_stop end [] s place (inl h) = absurd (not_in_nothing (place, h.token) h.after h.before h.split)
reading_of_stop end [] s place (inr h) = early_end end s place (is_whole s) refl h.0.short h.1
reading_of_stop end ((at, t) ∷ ts) s place stop = stopped_found end s at t ts place (next_move s t) refl (λ rest h. reading_of_stop end ts rest place h) stop
