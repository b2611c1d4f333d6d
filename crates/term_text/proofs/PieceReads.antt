-- How pieces of a text are read to tokens, one after the other: what they are wherever they stand, and what they
-- are before a byte that ends a word.
use Rattle.std.proofs.Common.{◌≡◌, ℕ, suc, ◌+◌, ◌-◌, ◌^◌, ◌<◌, ◌≤◌, Bool, true, false, ◌&&◌, ◌||◌, eqb, List, [], ◌∷◌, ◌++◌, length, refl, sym, ◌∙◌, ap, subst, arith, add-zero, append_assoc, length-append, Option, None, Some}
use Rattle.std.specs.Prelude.{codes, decimal}
use Rattle.std.specs.Fmt.{digits}
use Rattle.std.specs.List.{list_all}
use Rattle.std.proofs.lemmas.Bool.{agree_below, agree_below_at, and_parts, and_from, eqb-true, false≢true}
use Rattle.ecam_spec.specs.Book.{Text}
use Rattle.ecam_spec.specs.declared.kinds.Key.{Key}
use Rattle.ecam_spec.specs.declared.kinds.Key.TheVariants.{Clr, Rcl, Sts, All, Emer, ToCfg, Mw, Mc, Page}
use Rattle.ecam_spec.specs.declared.kinds.Op.{Op}
use Rattle.ecam_spec.specs.declared.kinds.Op.TheVariants.{Less, LessEq, More, MoreEq, Equal, Differ}
use Rattle.ecam_spec.specs.declared.terms.Span.{Span}
use Rattle.ecam_spec.specs.declared.terms.Reserved.{Reserved}
use Rattle.ecam_spec.specs.declared.terms.Reserved.TheVariants as words
use Rattle.ecam_spec.specs.declared.terms.Token.{Token}
use Rattle.ecam_spec.specs.declared.terms.Token.TheVariants.{Word, Name, KeyWord, Number, Sign, Open, Comma, Close}
use Rattle.ecam_spec.specs.Keys.{IsKey}
use Rattle.ecam_spec.specs.Places.{below}
use Rattle.ecam_spec.specs.RecordLine.{key_of, key_words}
use Rattle.ecam_spec.specs.Token.{word_token, token_at, tokens_from, reserved_of, reserved_words, word_of_kind}
use Rattle.ecam_spec.specs.Bytes.{is_between, is_small_letter, is_letter, is_name_byte, is_word_byte, is_digit}
use Rattle.ecam_spec.specs.TermVerdict.{words_of}
use Rattle.term_text.specs.Readable.{IsNameWord}
use Rattle.term_text.specs.Written.{key_word, sign_of, spaced, enclosed}
use Rattle.term_text.proofs.TokenPieces.{words_at, Ends, word_tokens, unsigned_tokens, negative_tokens}
use Rattle.term_text.proofs.DecimalTexts.{decimal_spells, decimal_digits}

-- wherever the piece stands, it has these tokens
abbrev pub Always : ℕ → Text → List Token → Type 0
Always at piece ts = (rest : Text) → words_at at (piece ++ rest) ≡ ts ++ words_at (at + length piece) rest

-- it has them before what ends a word
abbrev pub Ended : ℕ → Text → List Token → Type 0
Ended at piece ts = (rest : Text) → Ends rest → words_at at (piece ++ rest) ≡ ts ++ words_at (at + length piece) rest

-- what ends a word still does behind the piece
abbrev pub Delimits : Text → Type 0
Delimits piece = (rest : Text) → Ends rest → Ends (piece ++ rest)

-- the end of a word does behind the piece, whatever follows
abbrev pub Closes : Text → Type 0
Closes piece = (rest : Text) → Ends (piece ++ rest)

pub always_ended : (at : ℕ) (piece : Text) (ts : List Token) → Always at piece ts → Ended at piece ts
always_ended at piece ts h = λ rest end. h rest

-- two pieces, where the first is read so before the second
joined : (at : ℕ) (p q rest : Text) (ts us : List Token)
    → words_at at (p ++ (q ++ rest)) ≡ ts ++ words_at (at + length p) (q ++ rest)
    → words_at (at + length p) (q ++ rest) ≡ us ++ words_at (at + length p + length q) rest
    → words_at at (p ++ q ++ rest) ≡ ts ++ us ++ words_at (at + length (p ++ q)) rest
joined at p q rest ts us first second =
    let e : at + length p + length q ≡ at + length (p ++ q) = omega (arith, length-append p q) in
    ap (λ (x : Text). words_at at x) (append_assoc p q rest)
    ∙ first
    ∙ ap (λ (x : List Token). ts ++ x) (second ∙ ap (λ (i : ℕ). us ++ words_at i rest) e)
    ∙ sym (append_assoc ts us (words_at (at + length (p ++ q)) rest))

pub always_then_ended : (at : ℕ) (p q : Text) (ts us : List Token) → Always at p ts → Ended (at + length p) q us → Ended at (p ++ q) (ts ++ us)
always_then_ended at p q ts us f g = λ rest end. joined at p q rest ts us (f (q ++ rest)) (g rest end)

pub ended_then_always : (at : ℕ) (p q : Text) (ts us : List Token) → Ended at p ts → Closes q → Always (at + length p) q us → Always at (p ++ q) (ts ++ us)
ended_then_always at p q ts us f closes g = λ rest. joined at p q rest ts us (f (q ++ rest) (closes rest)) (g rest)

pub ended_then_ended : (at : ℕ) (p q : Text) (ts us : List Token) → Ended at p ts → Delimits q → Ended (at + length p) q us → Ended at (p ++ q) (ts ++ us)
ended_then_ended at p q ts us f delimits g = λ rest end. joined at p q rest ts us (f (q ++ rest) (delimits rest end)) (g rest end)

-- ---- single pieces

moved : (at to : ℕ) (ts : List Token) (rest : Text) → at ≡ to → ts ++ words_at at rest ≡ ts ++ words_at to rest
moved at to ts rest e = ap (λ (i : ℕ). ts ++ words_at i rest) e

pub nothing : (at : ℕ) → Ended at [] []
nothing at rest end = ap (λ (i : ℕ). words_at i rest) (sym (add-zero at))

pub closing : (at : ℕ) → Always at (codes ")") (Close ∷ [])
unfolding tokens_from token_at
closing at rest = moved (suc at) (at + 1) (Close ∷ []) rest (omega arith)

pub separating : (at : ℕ) → Always at (codes ", ") (Comma ∷ [])
unfolding tokens_from token_at
separating at rest = moved (suc (suc at)) (at + 2) (Comma ∷ []) rest (omega arith)

pub comparing : (at : ℕ) (op : Op) → Always at (spaced (sign_of op)) (Sign op ∷ [])
unfolding tokens_from token_at
comparing at Less rest = moved (suc (suc (suc at))) (at + 3) (Sign Less ∷ []) rest (omega arith)
comparing at LessEq rest = moved (suc (suc (suc (suc at)))) (at + 4) (Sign LessEq ∷ []) rest (omega arith)
comparing at More rest = moved (suc (suc (suc at))) (at + 3) (Sign More ∷ []) rest (omega arith)
comparing at MoreEq rest = moved (suc (suc (suc (suc at)))) (at + 4) (Sign MoreEq ∷ []) rest (omega arith)
comparing at Equal rest = moved (suc (suc (suc at))) (at + 3) (Sign Equal ∷ []) rest (omega arith)
comparing at Differ rest = moved (suc (suc (suc (suc at)))) (at + 4) (Sign Differ ∷ []) rest (omega arith)

-- the words before an opening bracket
abbrev pub word_text : Reserved → Text
word_text words.True = codes "true"
word_text words.False = codes "false"
word_text words.Valid = codes "valid"
word_text words.Phase = codes "phase"
word_text words.Alert = codes "alert"
word_text words.Press = codes "press"
word_text words.Fwc = codes "fwc"
word_text words.Not = codes "not"
word_text words.Rise = codes "rise"
word_text words.All = codes "all"
word_text words.Any = codes "any"
word_text words.AtLeast = codes "atleast"
word_text words.Conf = codes "conf"
word_text words.Hold = codes "hold"
word_text words.Latch = codes "latch"

-- a word is read where it ends
word_ended : (at b : ℕ) (bs : Text) (t : Token) → is_letter b ≡ true → list_all is_word_byte bs ≡ true → word_token (record { at = at; end = at + suc (length bs) }) (b ∷ bs) ≡ t → Ended at (b ∷ bs) (t ∷ [])
word_ended at b bs t letter all is rest end =
    ap words_of (word_tokens at b bs rest letter all end) ∙ ap (λ (x : Token). x ∷ words_at (at + suc (length bs)) rest) is

pub word_reads : (at : ℕ) (w : Reserved) → Ended at (word_text w) (Word w ∷ [])
unfolding word_token reserved_of reserved_words
word_reads at words.True = word_ended at 116 (codes "rue") (Word words.True) refl refl refl
word_reads at words.False = word_ended at 102 (codes "alse") (Word words.False) refl refl refl
word_reads at words.Valid = word_ended at 118 (codes "alid") (Word words.Valid) refl refl refl
word_reads at words.Phase = word_ended at 112 (codes "hase") (Word words.Phase) refl refl refl
word_reads at words.Alert = word_ended at 97 (codes "lert") (Word words.Alert) refl refl refl
word_reads at words.Press = word_ended at 112 (codes "ress") (Word words.Press) refl refl refl
word_reads at words.Fwc = word_ended at 102 (codes "wc") (Word words.Fwc) refl refl refl
word_reads at words.Not = word_ended at 110 (codes "ot") (Word words.Not) refl refl refl
word_reads at words.Rise = word_ended at 114 (codes "ise") (Word words.Rise) refl refl refl
word_reads at words.All = word_ended at 97 (codes "ll") (Word words.All) refl refl refl
word_reads at words.Any = word_ended at 97 (codes "ny") (Word words.Any) refl refl refl
word_reads at words.AtLeast = word_ended at 97 (codes "tleast") (Word words.AtLeast) refl refl refl
word_reads at words.Conf = word_ended at 99 (codes "onf") (Word words.Conf) refl refl refl
word_reads at words.Hold = word_ended at 104 (codes "old") (Word words.Hold) refl refl refl
word_reads at words.Latch = word_ended at 108 (codes "atch") (Word words.Latch) refl refl refl

bracket : (at : ℕ) → Always at (codes "(") (Open ∷ [])
unfolding tokens_from token_at
bracket at rest = moved (suc at) (at + 1) (Open ∷ []) rest (omega arith)

pub opening : (at : ℕ) (w : Reserved) → Always at (word_text w ++ codes "(") (Word w ∷ Open ∷ [])
opening at w = ended_then_always at (word_text w) (codes "(") (Word w ∷ []) (Open ∷ []) (word_reads at w) (λ rest. refl) (bracket (at + length (word_text w)))

-- what stands in brackets behind a word
pub wrapped : (at : ℕ) (w : Reserved) (inside : Text) (ts : List Token) → Ended (at + length (word_text w ++ codes "(")) inside ts
    → Always at (enclosed (word_text w ++ codes "(") inside) (Word w ∷ Open ∷ ts ++ Close ∷ [])
wrapped at w inside ts h =
    let first = always_then_ended at (word_text w ++ codes "(") inside (Word w ∷ Open ∷ []) ts (opening at w) h in
    ended_then_always at (word_text w ++ codes "(" ++ inside) (codes ")") (Word w ∷ Open ∷ ts) (Close ∷ []) first (λ rest. refl)
    (closing (at + length (word_text w ++ codes "(" ++ inside)))

-- ---- names

more_than_small : (small large other : Bool) → (small || other) ≡ true → ((small || large) || other) ≡ true
more_than_small true large other h = refl
more_than_small false true other h = refl
more_than_small false false other h = h

name_bytes_are_word_bytes : (bs : Text) → list_all is_name_byte bs ≡ true → list_all is_word_byte bs ≡ true
name_bytes_are_word_bytes [] h = refl
name_bytes_are_word_bytes (b ∷ bs) h =
    let parts = and_parts (is_name_byte b) (list_all is_name_byte bs) h in
    and_from (is_word_byte b) (list_all is_word_byte bs)
    (more_than_small (is_small_letter b) (is_between 65 90 b) (is_digit b || eqb b 95) parts.0)
    (name_bytes_are_word_bytes bs parts.1)

name_read : (at b : ℕ) (bs : Text) → IsNameWord (b ∷ bs) → Ended at (b ∷ bs) (Name (record { at = at; end = at + suc (length bs) }) ∷ [])
unfolding word_token
name_read at b bs w =
    let span : Span = record { at = at; end = at + suc (length bs) } in
    let is : word_token span (b ∷ bs) ≡ Name span
    = ap (λ (r : Option Reserved). word_of_kind span r (list_all is_name_byte (b ∷ bs)) (key_of (b ∷ bs))) w.free
    ∙ ap (λ (x : Bool). word_of_kind span None x (key_of (b ∷ bs))) w.bytes
    in
    word_ended at b bs (Name span) w.first (name_bytes_are_word_bytes bs (and_parts (is_name_byte b) (list_all is_name_byte bs) w.bytes).1) is

pub name_reads : (at : ℕ) (t : Text) → IsNameWord t → Ended at t (Name (record { at = at; end = at + length t }) ∷ [])
name_reads at [] w = absurd (let e = w.first in cc)
name_reads at (b ∷ bs) w = name_read at b bs w

-- ---- keys

-- a key is a page's
is_page : ℕ → Option Key → Bool
is_page p (Some (Page q)) = eqb q p
is_page p _ = false

page_is : (p : ℕ) (k : Option Key) → is_page p k ≡ true → k ≡ Some (Page p)
unfolding is_page
page_is p (Some (Page q)) h = ap (λ (x : ℕ). Some (Page x)) (eqb-true q p h)
page_is p _ h = absurd (false≢true h)

-- a page's word is its key's, and has word bytes alone
is_page_word : ℕ → Bool
is_page_word p = is_page p (key_of (codes "PG" ++ decimal p)) && list_all is_word_byte (codes "G" ++ decimal p)

page_words : agree_below (λ i. is_page_word (i + 1)) (λ i. true) 16 ≡ true
unfolding is_page_word is_page key_of key_words below digits
page_words = refl

record IsPageWord (p : ℕ) : Type 0 where
  key : key_of (codes "PG" ++ decimal p) ≡ Some (Page p)
  bytes : list_all is_word_byte (codes "G" ++ decimal p) ≡ true

page_word : (p : ℕ) → 1 ≤ p → p ≤ 16 → IsPageWord p
unfolding is_page_word
page_word p low high =
    let e : (p - 1) + 1 ≡ p = omega arith in
    let is = agree_below_at (λ i. is_page_word (i + 1)) (λ i. true) 16 (p - 1) page_words (omega arith) in
    let parts = and_parts (is_page p (key_of (codes "PG" ++ decimal p))) (list_all is_word_byte (codes "G" ++ decimal p)) (sym (ap is_page_word e) ∙ is) in
    record { key = page_is p (key_of (codes "PG" ++ decimal p)) parts.0; bytes = parts.1 }

page_token : (s : Span) (p : ℕ) → key_of (codes "PG" ++ decimal p) ≡ Some (Page p) → word_token s (codes "PG" ++ decimal p) ≡ KeyWord (Page p)
unfolding word_token reserved_of reserved_words
page_token s p is = ap (λ (k : Option Key). word_of_kind s None false k) is

page_reads : (at p : ℕ) → IsPageWord p → Ended at (key_word (Page p)) (KeyWord (Page p) ∷ [])
page_reads at p is = word_ended at 80 (codes "G" ++ decimal p) (KeyWord (Page p)) refl is.bytes (page_token (record { at = at; end = at + suc (length (codes "G" ++ decimal p)) }) p is.key)

pub key_reads : (at : ℕ) (key : Key) → IsKey key → Ended at (key_word key) (KeyWord key ∷ [])
unfolding word_token reserved_of reserved_words key_of key_words below digits
key_reads at Clr is = word_ended at 67 (codes "LR") (KeyWord Clr) refl refl refl
key_reads at Rcl is = word_ended at 82 (codes "CL") (KeyWord Rcl) refl refl refl
key_reads at Sts is = word_ended at 83 (codes "TS") (KeyWord Sts) refl refl refl
key_reads at All is = word_ended at 65 (codes "LL") (KeyWord All) refl refl refl
key_reads at Emer is = word_ended at 69 (codes "MER") (KeyWord Emer) refl refl refl
key_reads at ToCfg is = word_ended at 84 (codes "OCFG") (KeyWord ToCfg) refl refl refl
key_reads at Mw is = word_ended at 77 (codes "W") (KeyWord Mw) refl refl refl
key_reads at Mc is = word_ended at 77 (codes "C") (KeyWord Mc) refl refl refl
key_reads at (Page p) is = page_reads at p (page_word p is.0 is.1)

-- ---- numbers

unsigned_read : (at b : ℕ) (bs : Text) → is_digit b ≡ true → list_all is_digit bs ≡ true → Ended at (b ∷ bs) (Number (record { at = at; end = at + suc (length bs) }) ∷ [])
unsigned_read at b bs first others rest end = ap words_of (unsigned_tokens at b bs rest first others end)

pub number_reads : (at n : ℕ) → n < 2 ^ 64 → Ended at (decimal n) (Number (record { at = at; end = at + length (decimal n) }) ∷ [])
number_reads at n fits =
    let d = decimal_digits n fits in
    subst (λ (x : Text). Ended at x (Number (record { at = at; end = at + length x }) ∷ [])) (sym d.is) (unsigned_read at d.first d.others d.first_digit d.other_digits)

pub negative_reads : (at n : ℕ) → suc n < 2 ^ 64 → Ended at (45 ∷ decimal (suc n)) (Number (record { at = at; end = at + suc (length (decimal (suc n))) }) ∷ [])
negative_reads at n fits rest end = let s = decimal_spells (suc n) fits in ap words_of (negative_tokens at (decimal (suc n)) rest s.some s.digits end)
