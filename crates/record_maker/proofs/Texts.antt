-- The lines of keys and computers, byte by byte.
use Rattle.std.proofs.Common.{◌≡◌, ℕ, zero, suc, ◌+◌, ◌/◌, ◌%◌, ◌<◌, ◌≤◌, Bool, true, ◌==◌, List, [], ◌∷◌, ◌++◌, get_or, cond, refl, sym, ◌∙◌, ap, arith, append-nil, inl, inr, length, leb}
use Rattle.std.proofs.lemmas.Bool.{eq-eqb, ne_eqb, le-leb, lt-leb, leb-true, and_parts, cases_eq}
use Rattle.std.proofs.lemmas.List.{get_or-map}
use Rattle.std.proofs.lemmas.List.Folds.{list_all-append}
use Rattle.std.proofs.lemmas.List.Concat.{flat_map-append}
use Rattle.std.proofs.lemmas.Fmt.{decimal_digit}
use Rattle.std.specs.Fmt.{digits}
use Rattle.std.specs.List.{list_all}
use Rattle.std.specs.Prelude.{codes, decimal, map}
use Rattle.ecam_spec.specs.declared.kinds.Key.{Key}
use Rattle.ecam_spec.specs.declared.kinds.Key.TheVariants.{Clr}
use Rattle.ecam_spec.specs.Book.{Text}
use Rattle.ecam_spec.specs.Output.{line}
use Rattle.ecam_spec.specs.Places.{below}
use Rattle.ecam_spec.specs.RecordLine.{key_words}
use Rattle.record_maker.specs.Draws.{moved_right}
use Rattle.record_maker.specs.Lines.{key_word, key_lines, computer_lines}
use Rattle.record_maker.specs.Record.{text_of}

-- ---- some lines

pub text_of-nil : text_of [] ≡ []
unfolding text_of
text_of-nil = refl

pub text_of-one : (l : Text) → text_of (l ∷ []) ≡ line l
unfolding text_of
text_of-one l = append-nil (line l)

pub text_of-cons : (l : Text) (ls : List Text) → text_of (l ∷ ls) ≡ line l ++ text_of ls
unfolding text_of
text_of-cons l ls = refl

pub text_of-append : (ks ls : List Text) → text_of (ks ++ ls) ≡ text_of ks ++ text_of ls
unfolding text_of
text_of-append ks ls = flat_map-append line ks ls

-- no line more
pub and_none : (bytes : List ℕ) (ls : List Text) → ls ≡ [] → bytes ≡ bytes ++ text_of ls
and_none bytes ls none = sym (ap (λ l. bytes ++ text_of l) none ∙ ap (λ t. bytes ++ t) text_of-nil ∙ append-nil bytes)

-- ---- keys

pub key_word-at : (words : List Text) (n : ℕ) → n < 24 → words ≡ map (λ k. k.0) key_words → get_or words n [] ≡ key_word n
unfolding key_word key_words below
key_word-at words n within same = ap (λ l. get_or l n []) same ∙ get_or-map (λ (k : Text × Key). k.0) key_words n ([], Clr) [] within

-- what holds of each number below a bound, by computing
pub each_below : (p : ℕ → Bool) (n : ℕ) → list_all p (below n) ≡ true → (i : ℕ) → i < n → p i ≡ true
unfolding below
each_below p zero all i within = absurd (omega arith)
each_below p (suc n) all i within =
    let parts = and_parts (list_all p (below n)) (list_all p (n ∷ [])) (sym (list_all-append p (below n) (n ∷ [])) ∙ all) in
    elim (cases_eq i n) [
      | inl here ↦ rw here (and_parts (p n) true parts.1).0
      | inr other ↦ each_below p n parts.0 i (omega arith)
    ]

all_short : list_all (λ n. leb (length (key_word n)) 5) (below 24) ≡ true
unfolding key_word key_words below digits
all_short = refl

pub short_keys : (n : ℕ) → n < 24 → length (key_word n) ≤ 5
short_keys n within = leb-true (length (key_word n)) 5 (each_below (λ n. leb (length (key_word n)) 5) 24 all_short n within)

module _ (r : ℕ) where
  pub no_key : ((r % 50 ≡ 0) → ⊥) → key_lines r ≡ []
  unfolding key_lines
  no_key other = let e = ne_eqb (r % 50) 0 other in rw e refl

  -- a key's line by its letter
  pub a_key : (letter : ℕ) → r % 50 ≡ 0 → (cond (moved_right r 32 % 2 == 0) (codes "P ") (codes "R ")) ≡ letter ∷ 32 ∷ []
      → text_of (key_lines r) ≡ letter ∷ 32 ∷ key_word (r / 50 % 24) ++ 10 ∷ []
  unfolding key_lines
  a_key letter here is = let e = eq-eqb (r % 50) 0 here in rw (e, is) (text_of-one _)

  -- ---- computers

  one_or_two : (n : ℕ) → decimal (1 + n % 2) ≡ (49 + n % 2) ∷ []
  one_or_two n = decimal_digit (1 + n % 2) (omega arith) ∙ ap (λ d. d ∷ []) (omega arith)

  pub fails : r % 400 ≡ 0 → text_of (computer_lines r) ≡ 70 ∷ 32 ∷ (49 + r / 400 % 2) ∷ 10 ∷ []
  unfolding computer_lines
  fails here =
      let e = eq-eqb (r % 400) 0 here in
      rw e (text_of-one _ ∙ ap (λ d. (codes "F " ++ d) ++ 10 ∷ []) (one_or_two (r / 400)))

  pub comes_up : ((r % 400 ≡ 0) → ⊥) → r % 400 ≤ 8 → text_of (computer_lines r) ≡ 85 ∷ 32 ∷ (49 + r / 400 % 2) ∷ 10 ∷ []
  unfolding computer_lines
  comes_up other few =
      let e = ne_eqb (r % 400) 0 other in
      let l = le-leb (r % 400) 8 few in
      rw (e, l) (text_of-one _ ∙ ap (λ d. (codes "U " ++ d) ++ 10 ∷ []) (one_or_two (r / 400)))

  pub no_computer : 8 < r % 400 → computer_lines r ≡ []
  unfolding computer_lines
  no_computer many =
      let e = ne_eqb (r % 400) 0 (λ h. omega arith) in
      let l = lt-leb (r % 400) 8 many in
      rw (e, l) refl
