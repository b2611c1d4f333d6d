-- The tokens of a condition's text: at each place that no token before it covers and that has no blank begins
-- the longest token that can. The language of conditions is this project's own.
use Rattle.std.specs.Prelude.{ℕ, zero, suc, ◌+◌, Bool, true, false, ◌&&◌, ◌||◌, ◌==◌, nat_le, List, [], ◌∷◌, take, find, Option, Some, None, option_map, slice_index, slice_range, codes}
use Rattle.std.specs.List.{list_all}
use Rattle.ecam_spec.specs.declared.kinds.Key.{Key}
use Rattle.ecam_spec.specs.declared.kinds.Op.TheVariants.{Less, LessEq, More, MoreEq, Equal, Differ}
use Rattle.ecam_spec.specs.declared.terms.Span.{Span}
use Rattle.ecam_spec.specs.declared.terms.Reserved.{Reserved}
use Rattle.ecam_spec.specs.declared.terms.Reserved.TheVariants as words
use Rattle.ecam_spec.specs.declared.terms.Token.{Token}
use Rattle.ecam_spec.specs.declared.terms.Token.TheVariants.{Word, Name, KeyWord, Number, Sign, Open, Comma, Close, Stray}
use Rattle.ecam_spec.specs.Bytes.{is_digit, is_letter, is_name_byte, is_word_byte, same_text}
use Rattle.ecam_spec.specs.Book.{Text}
use Rattle.ecam_spec.specs.RecordLine.{key_of}

-- the bytes of a text that a span has
abbrev pub bytes_of : Text → Span → Text
bytes_of text span = slice_range text span.at span.end

-- how many bytes at the front pass a test
abbrev pub run_length : (ℕ → Bool) → Text → ℕ
run_length p [] = 0
run_length p (b ∷ bs) = elim (p b) [ true ↦ suc (run_length p bs) | false ↦ 0 ]

-- `<`, `>` and `!`, which an equals sign may follow
abbrev pub may_take_equals : ℕ → Bool
may_take_equals b = b == 60 || (b == 62 || b == 33)

abbrev pub begins_with_equals : Text → Bool
begins_with_equals t = slice_index t 0 == 61

-- how many bytes follow the first of the token at the front: a letter begins a word, a digit or a minus a
-- number, and any other byte stands alone, unless it is a sign of two
abbrev pub more_bytes : ℕ → Text → ℕ
more_bytes b bs =
    elim (is_letter b) [
      | true ↦ run_length is_word_byte bs
      | false ↦ elim (is_digit b || b == 45) [
        | true ↦ run_length is_digit bs
        | false ↦ elim (may_take_equals b && begins_with_equals bs) [ true ↦ 1 | false ↦ 0 ]
      ]
    ]

-- the words that are no names
unfoldable pub reserved_words : List (Text × Reserved)
reserved_words =
    (codes "true", words.True) ∷ (codes "false", words.False) ∷ (codes "valid", words.Valid)
    ∷ (codes "phase", words.Phase) ∷ (codes "alert", words.Alert) ∷ (codes "press", words.Press)
    ∷ (codes "fwc", words.Fwc) ∷ (codes "not", words.Not) ∷ (codes "rise", words.Rise) ∷ (codes "all", words.All)
    ∷ (codes "any", words.Any) ∷ (codes "atleast", words.AtLeast) ∷ (codes "conf", words.Conf)
    ∷ (codes "hold", words.Hold) ∷ (codes "latch", words.Latch) ∷ []

unfoldable pub reserved_of : Text → Option Reserved
reserved_of t = option_map (λ w. w.1) (find (λ w. same_text t w.0) reserved_words)

-- a word is a reserved one, or a name, or a key's
abbrev pub word_of_kind : Span → Option Reserved → Bool → Option Key → Token
word_of_kind s (Some w) b k = Word w
word_of_kind s None true k = Name s
word_of_kind s None false (Some k) = KeyWord k
word_of_kind s None false None = Stray

unfoldable pub word_token : Span → Text → Token
word_token s t = word_of_kind s (reserved_of t) (list_all is_name_byte t) (key_of t)

-- a sign of one byte, or of two where an equals sign follows
abbrev pub sign_token : ℕ → Bool → Token
sign_token b true =
    elim (b == 60) [
      | true ↦ Sign LessEq
      | false ↦ elim (b == 62) [ true ↦ Sign MoreEq | false ↦ Sign Differ ]
    ]
sign_token b false =
    elim (b == 40) [
      | true ↦ Open
      | false ↦ elim (b == 41) [
        | true ↦ Close
        | false ↦ elim (b == 44) [
          | true ↦ Comma
          | false ↦ elim (b == 60) [
            | true ↦ Sign Less
            | false ↦ elim (b == 62) [
              | true ↦ Sign More
              | false ↦ elim (b == 61) [ true ↦ Sign Equal | false ↦ Stray ]
            ]
          ]
        ]
      ]
    ]

-- the token at the front, a byte and those that follow it, at a place of the text
unfoldable pub token_at : ℕ → ℕ → Text → Token
token_at at b bs =
    let more = more_bytes b bs in
    let span : Span = record { at = at; end = at + suc more } in
    elim (is_letter b) [
      | true ↦ word_token span (b ∷ take more bs)
      | false ↦ elim (is_digit b || (b == 45 && nat_le 1 more)) [
        | true ↦ Number span
        | false ↦ sign_token b (nat_le 1 more)
      ]
    ]

-- a token and its place
abbrev pub Placed : Type 0
Placed = ℕ × Token

-- the tokens of what follows a place, of which so many bytes belong to the token before it
unfoldable pub tokens_from : ℕ → ℕ → Text → List Placed
tokens_from skip at [] = []
tokens_from (suc skip) at (b ∷ bs) = tokens_from skip (suc at) bs
tokens_from zero at (b ∷ bs) =
    elim (b == 32) [
      | true ↦ tokens_from 0 (suc at) bs
      | false ↦ (at, token_at at b bs) ∷ tokens_from (more_bytes b bs) (suc at) bs
    ]

-- the tokens of a text, with their places
abbrev pub tokens : Text → List Placed
tokens text = tokens_from 0 0 text
