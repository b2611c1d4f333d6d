-- The keys that the tokens of a text name are there.
use Rattle.std.proofs.Common.{◌≡◌, ℕ, zero, suc, ◌+◌, ◌<◌, ◌≤◌, Bool, true, false, List, [], ◌∷◌, ◌++◌, map, Option, Some, None, refl, sym, subst, ◌∙◌, inl, inr, arith}
use Rattle.std.specs.Prelude.{find, option_map, nat_le, take, codes, decimal, ◌==◌, ◌&&◌, ◌||◌}
use Rattle.std.specs.List.{All, list_all}
use Rattle.std.proofs.lemmas.Bool.{cases_Bool}
use Rattle.std.proofs.lemmas.List.Elements.{All-cons, All-nil, All-append, All-map, All-weaker, All-head, All-tail, All-from_recursion, recursion_from_All}
use Rattle.ecam_spec.specs.declared.kinds.Key.{Key}
use Rattle.ecam_spec.specs.declared.kinds.Key.TheVariants.{Page}
use Rattle.ecam_spec.specs.declared.kinds.Op.TheVariants.{Less, LessEq, More, MoreEq, Equal, Differ}
use Rattle.ecam_spec.specs.declared.terms.Span.{Span}
use Rattle.ecam_spec.specs.declared.terms.Reserved.{Reserved}
use Rattle.ecam_spec.specs.declared.terms.Token.{Token}
use Rattle.ecam_spec.specs.declared.terms.Token.TheVariants.{KeyWord, Number, Sign, Open, Comma, Close, Stray}
use Rattle.ecam_spec.specs.Book.{Text}
use Rattle.ecam_spec.specs.Keys.{IsKey}
use Rattle.ecam_spec.specs.Bytes.{same_text, is_letter, is_digit, is_name_byte}
use Rattle.ecam_spec.specs.Places.{below}
use Rattle.ecam_spec.specs.RecordLine.{key_words, key_of}
use Rattle.ecam_spec.specs.Token.{tokens, tokens_from, token_at, word_token, word_of_kind, sign_token, reserved_of, more_bytes, Placed}
use Rattle.ecam_spec.specs.TermVerdict.{words_of}

-- a token that names a key names one that is there
abbrev pub NamesKey : Token → Type 0
NamesKey (KeyWord key) = IsKey key
NamesKey _ = Unit {0}

-- what is so of each element is so of the one that a search finds
pub found_so : {X : Type 0} (P : X → Type 0) (test : X → Bool) (xs : List X) → All P xs → (x : X) → find test xs ≡ Some x → P x
found_so P test [] all x h = absurd (cc)
found_so P test (y ∷ ys) all x h =
    elim (cases_Bool (test y)) [
      | inl pass ↦ let e : Some y ≡ Some x = sym (rw pass refl) ∙ h in let same : y ≡ x = cc in subst P same (All-head P y ys all)
      | inr fail ↦ let e : find test ys ≡ Some x = sym (rw fail refl) ∙ h in found_so P test ys (All-tail P y ys all) x e
    ]

below_within : (n m : ℕ) → n ≤ m → All (λ i. i < m) (below n)
unfolding below
below_within zero m h = All-nil (λ i. i < m)
below_within (suc n) m h =
    All-append (λ i. i < m) (below n) (n ∷ []) (below_within n m (omega arith)) (All-cons (λ i. i < m) n [] (omega arith) (All-nil (λ i. i < m)))

abbrev NamedKey : Text × Key → Type 0
NamedKey k = IsKey k.1

abbrev page_words : List (Text × Key)
page_words = map (λ i. (codes "PG" ++ decimal (i + 1), Page (i + 1))) (below 16)

pages_there : All NamedKey page_words
pages_there = All-map NamedKey (λ i. (codes "PG" ++ decimal (i + 1), Page (i + 1))) (below 16)
    (All-weaker (λ i. i < 16) (λ i. IsKey (Page (i + 1))) (λ i h. (omega arith, omega arith)) (below 16) (below_within 16 16 (omega arith)))

words_there : All NamedKey key_words
unfolding key_words
words_there = All-from_recursion NamedKey key_words (tt, (tt, (tt, (tt, (tt, (tt, (tt, (tt, recursion_from_All NamedKey page_words pages_there))))))))

key_there : (word : Text) (key : Key) → key_of word ≡ Some key → IsKey key
unfolding key_of
key_there word key h =
    elim (find (λ k. same_text word k.0) key_words) as (λ o. find (λ k. same_text word k.0) key_words ≡ o → option_map (λ k. k.1) o ≡ Some key → IsKey key) [
      | None ↦ λ e k. absurd (cc)
      | Some w ↦ λ e k. let same : w.1 ≡ key = cc in subst IsKey same (found_so NamedKey (λ k. same_text word k.0) key_words words_there w e)
    ] refl h

word_names : (span : Span) (reserved : Option Reserved) (name : Bool) (key : Option Key) → ((k : Key) → key ≡ Some k → IsKey k) → NamesKey (word_of_kind span reserved name key)
word_names span (Some w) name key there = tt
word_names span None true key there = tt
word_names span None false (Some k) there = there k refl
word_names span None false None there = tt

-- a choice of two tokens
either_names : (b : Bool) (t u : Token) → NamesKey t → NamesKey u → NamesKey (elim b as (λ c. Token) [ true ↦ t | false ↦ u ])
either_names true t u h k = h
either_names false t u h k = k

sign_names : (b : ℕ) (long : Bool) → NamesKey (sign_token b long)
sign_names b true = either_names (b == 60) (Sign LessEq) _ tt (either_names (b == 62) (Sign MoreEq) (Sign Differ) tt tt)
sign_names b false =
    either_names (b == 40) Open _ tt
    (either_names (b == 41) Close _ tt
    (either_names (b == 44) Comma _ tt
    (either_names (b == 60) (Sign Less) _ tt
    (either_names (b == 62) (Sign More) _ tt
    (either_names (b == 61) (Sign Equal) Stray tt tt)))))

token_names : (at b : ℕ) (bs : Text) → NamesKey (token_at at b bs)
unfolding token_at word_token
token_names at b bs =
    let more = more_bytes b bs in
    let span : Span = record { at = at; end = at + suc more } in
    let word = b ∷ take more bs in
    either_names (is_letter b) _ _
    (word_names span (reserved_of word) (list_all is_name_byte word) (key_of word) (key_there word))
    (either_names (is_digit b || (b == 45 && nat_le 1 more)) (Number span) _ tt (sign_names b (nat_le 1 more)))

tokens_name : (skip at : ℕ) (bs : Text) → All (λ p. NamesKey p.1) (tokens_from skip at bs)
unfolding tokens_from
tokens_name skip at [] = All-nil (λ (p : Placed). NamesKey p.1)
tokens_name (suc skip) at (b ∷ bs) = tokens_name skip (suc at) bs
tokens_name zero at (b ∷ bs) =
    elim (b == 32) as (λ c. All (λ p. NamesKey p.1) (elim c as (λ x. List Placed) [ true ↦ tokens_from 0 (suc at) bs | false ↦ (at, token_at at b bs) ∷ tokens_from (more_bytes b bs) (suc at) bs ])) [
      | true ↦ tokens_name 0 (suc at) bs
      | false ↦ All-cons (λ (p : Placed). NamesKey p.1) (at, token_at at b bs) (tokens_from (more_bytes b bs) (suc at) bs) (token_names at b bs) (tokens_name (more_bytes b bs) (suc at) bs)
    ]

-- each key that the tokens of a text name is there
pub text_names : (text : Text) → All NamesKey (words_of (tokens text))
text_names text = All-map NamesKey (λ p. p.1) (tokens text) (tokens_name 0 0 text)
