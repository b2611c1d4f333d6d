-- What is so of the names and the keys among the tokens of a text.
use Rattle.std.proofs.Common.{◌≡◌, ℕ, zero, suc, ◌+◌, ◌-◌, Bool, true, false, ◌&&◌, ◌||◌, cond, eqb, leb, List, [], ◌∷◌, ◌++◌, take, drop, Option, Some, None, option_map, refl, sym, ◌∙◌, ap, subst, arith, add-one}
use Rattle.std.specs.Prelude.{slice_index, find}
use Rattle.std.specs.List.{list_all}
use Rattle.std.proofs.lemmas.Bool.{and_parts, leb-true}
use Rattle.ecam_spec.specs.Book.{Text}
use Rattle.ecam_spec.specs.declared.kinds.Key.{Key}
use Rattle.ecam_spec.specs.declared.kinds.Key.TheVariants.{Page}
use Rattle.ecam_spec.specs.declared.kinds.Op.TheVariants.{Less, LessEq, More, MoreEq, Equal, Differ}
use Rattle.ecam_spec.specs.declared.terms.Span.{Span}
use Rattle.ecam_spec.specs.declared.terms.Reserved.{Reserved}
use Rattle.ecam_spec.specs.declared.terms.Token.{Token}
use Rattle.ecam_spec.specs.declared.terms.Token.TheVariants.{Name, KeyWord, Number, Sign, Open, Comma, Close, Stray}
use Rattle.ecam_spec.specs.Keys.{IsKey}
use Rattle.ecam_spec.specs.Places.{below}
use Rattle.ecam_spec.specs.Bytes.{same_text, is_letter, is_name_byte, is_digit}
use Rattle.ecam_spec.specs.RecordLine.{key_of, key_words}
use Rattle.ecam_spec.specs.Token.{Placed, bytes_of, more_bytes, reserved_of, word_of_kind, word_token, sign_token, token_at, tokens_from}
use Rattle.ecam_spec.specs.TermVerdict.{words_of}
use Rattle.term_text.specs.Readable.{IsNameWord}
use Rattle.term_text.proofs.AtomsRead.{Stands, behind}

-- ---- keys

is_known : Key → Bool
is_known (Page i) = leb 1 i && leb i 16
is_known _ = true

known_key : (key : Key) → is_known key ≡ true → IsKey key
unfolding is_known
known_key (Page i) is = let parts = and_parts (leb 1 i) (leb i 16) is in (leb-true 1 i parts.0, leb-true i 16 parts.1)
known_key _ is = tt

key_kept : (b : Bool) (x : Text × Key) (rest : Option (Text × Key)) (k : Key) → is_known x.1 ≡ true → (option_map (λ y. y.1) rest ≡ Some k → is_known k ≡ true) → option_map (λ y. y.1) (cond b (Some x) rest) ≡ Some k → is_known k ≡ true
key_kept true x rest k known others is = let e : x.1 ≡ k = cc in subst (λ (q : Key). is_known q ≡ true) e known
key_kept false x rest k known others is = others is

key_found : (word : Text) (ks : List (Text × Key)) (k : Key) → list_all (λ x. is_known x.1) ks ≡ true → option_map (λ x. x.1) (find (λ x. same_text word x.0) ks) ≡ Some k → is_known k ≡ true
key_found word [] k all is = cc
key_found word (x ∷ ks) k all is =
    let parts = and_parts (is_known x.1) (list_all (λ y. is_known y.1) ks) all in
    key_kept (same_text word x.0) x (find (λ y. same_text word y.0) ks) k parts.0 (key_found word ks k parts.1) is

all_known : list_all (λ x. is_known x.1) key_words ≡ true
unfolding is_known key_words below
all_known = refl

key_of-IsKey : (word : Text) (k : Key) → key_of word ≡ Some k → IsKey k
unfolding key_of
key_of-IsKey word k is = known_key k (key_found word key_words k all_known is)

-- ---- tokens

module _ (text : Text) where
  -- a name has a name's word, and a key is a key's
  abbrev pub IsFine : Token → Type 0
  IsFine (Name s) = IsNameWord (bytes_of text s)
  IsFine (KeyWord k) = IsKey k
  IsFine _ = Unit {0}

  abbrev pub AreFine : List Token → Type 0
  AreFine [] = Unit {0}
  AreFine (t ∷ ts) = IsFine t × AreFine ts

module _ (text : Text) where
  pub fine_parts : (ts us : List Token) → AreFine text (ts ++ us) → AreFine text ts × AreFine text us
  fine_parts [] us fine = (tt, fine)
  fine_parts (t ∷ ts) us fine = let parts = fine_parts ts us fine.1 in ((fine.0, parts.0), parts.1)

  fine_choice : (b : Bool) (t u : Token) → IsFine text t → IsFine text u → IsFine text (elim b as (λ v. Token) [ true ↦ t | false ↦ u ])
  fine_choice true t u f g = f
  fine_choice false t u f g = g

  fine_word : (s : Span) (t : Text) (r : Option Reserved) (b : Bool) (k : Option Key) → reserved_of t ≡ r → list_all is_name_byte t ≡ b → key_of t ≡ k → bytes_of text s ≡ t
      → is_letter (slice_index t 0) ≡ true → IsFine text (word_of_kind s r b k)
  fine_word s t (Some w) b k reserved bytes key is first = tt
  fine_word s t None true k reserved bytes key is first = subst IsNameWord (sym is) (record { first = first; bytes = bytes; free = reserved })
  fine_word s t None false (Some k) reserved bytes key is first = key_of-IsKey t k key
  fine_word s t None false None reserved bytes key is first = tt

  fine_sign : (b : ℕ) (x : Bool) → IsFine text (sign_token b x)
  fine_sign b true = fine_choice (eqb b 60) (Sign LessEq) (elim (eqb b 62) as (λ v. Token) [ true ↦ Sign MoreEq | false ↦ Sign Differ ]) tt (fine_choice (eqb b 62) (Sign MoreEq) (Sign Differ) tt tt)
  fine_sign b false = fine_choice (eqb b 40) Open (elim (eqb b 41) as (λ v. Token) [ true ↦ Close | false ↦ elim (eqb b 44) as (λ v. Token) [ true ↦ Comma | false ↦ elim (eqb b 60) as (λ v. Token) [ true ↦ Sign Less | false ↦ elim (eqb b 62) as (λ v. Token) [ true ↦ Sign More | false ↦ elim (eqb b 61) as (λ v. Token) [ true ↦ Sign Equal | false ↦ Stray ] ] ] ] ]) tt (fine_choice (eqb b 41) Close (elim (eqb b 44) as (λ v. Token) [ true ↦ Comma | false ↦ elim (eqb b 60) as (λ v. Token) [ true ↦ Sign Less | false ↦ elim (eqb b 62) as (λ v. Token) [ true ↦ Sign More | false ↦ elim (eqb b 61) as (λ v. Token) [ true ↦ Sign Equal | false ↦ Stray ] ] ] ]) tt (fine_choice (eqb b 44) Comma (elim (eqb b 60) as (λ v. Token) [ true ↦ Sign Less | false ↦ elim (eqb b 62) as (λ v. Token) [ true ↦ Sign More | false ↦ elim (eqb b 61) as (λ v. Token) [ true ↦ Sign Equal | false ↦ Stray ] ] ]) tt (fine_choice (eqb b 60) (Sign Less) (elim (eqb b 62) as (λ v. Token) [ true ↦ Sign More | false ↦ elim (eqb b 61) as (λ v. Token) [ true ↦ Sign Equal | false ↦ Stray ] ]) tt (fine_choice (eqb b 62) (Sign More) (elim (eqb b 61) as (λ v. Token) [ true ↦ Sign Equal | false ↦ Stray ]) tt (fine_choice (eqb b 61) (Sign Equal) Stray tt tt)))))

  fine_letter : (at b : ℕ) (bs : Text) (n : ℕ) (letter : Bool) → is_letter b ≡ letter → bytes_of text (record { at = at; end = at + suc n }) ≡ b ∷ take n bs
      → (other : Token) → IsFine text other → IsFine text (elim letter as (λ v. Token) [ true ↦ word_token (record { at = at; end = at + suc n }) (b ∷ take n bs) | false ↦ other ])
  unfolding word_token
  fine_letter at b bs n true letter is other fine = fine_word (record { at = at; end = at + suc n }) (b ∷ take n bs) (reserved_of (b ∷ take n bs)) (list_all is_name_byte (b ∷ take n bs)) (key_of (b ∷ take n bs)) refl refl refl is letter
  fine_letter at b bs n false letter is other fine = fine

  bytes_of_token : (at b : ℕ) (bs : Text) (n : ℕ) → Stands text at (b ∷ bs) → bytes_of text (record { at = at; end = at + suc n }) ≡ b ∷ take n bs
  bytes_of_token at b bs n h =
      let e : at + suc n - at ≡ suc n = omega arith in
      ap (λ (m : ℕ). take m (drop at text)) e ∙ ap (take (suc n)) h

  fine_token : (at b : ℕ) (bs : Text) → Stands text at (b ∷ bs) → IsFine text (token_at at b bs)
  unfolding token_at
  fine_token at b bs h =
      let n = more_bytes b bs in
      let other : Token = elim (is_digit b || (eqb b 45 && leb 1 n)) as (λ v. Token) [ true ↦ Number (record { at = at; end = at + suc n }) | false ↦ sign_token b (leb 1 n) ] in
      fine_letter at b bs n (is_letter b) refl (bytes_of_token at b bs n h) other
      (fine_choice (is_digit b || (eqb b 45 && leb 1 n)) (Number (record { at = at; end = at + suc n })) (sign_token b (leb 1 n)) tt (fine_sign b (leb 1 n)))

  fine_next : (blank : Bool) (ts us : List Placed) → AreFine text (words_of ts) → AreFine text (words_of us) → AreFine text (words_of (elim blank as (λ v. List Placed) [ true ↦ ts | false ↦ us ]))
  fine_next true ts us f g = f
  fine_next false ts us f g = g

  after_byte : (at b : ℕ) (bs : Text) → Stands text at (b ∷ bs) → Stands text (suc at) bs
  after_byte at b bs h = ap (λ (i : ℕ). drop i text) (sym (add-one at)) ∙ behind text at (b ∷ []) bs h

  -- the names and the keys among the tokens
  pub fine_tokens : (skip at : ℕ) (rest : Text) → Stands text at rest → AreFine text (words_of (tokens_from skip at rest))
  unfolding tokens_from
  fine_tokens skip at [] h = tt
  fine_tokens (suc skip) at (b ∷ bs) h = fine_tokens skip (suc at) bs (after_byte at b bs h)
  fine_tokens zero at (b ∷ bs) h =
      let next = after_byte at b bs h in
      fine_next (eqb b 32) (tokens_from 0 (suc at) bs) ((at, token_at at b bs) ∷ tokens_from (more_bytes b bs) (suc at) bs)
      (fine_tokens 0 (suc at) bs next)
      (fine_token at b bs h, fine_tokens (more_bytes b bs) (suc at) bs next)
