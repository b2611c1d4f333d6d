-- The grammar of conditions, on whole lists of tokens: what a text may say, and how that is spelled.
use Rattle.std.specs.Prelude.{◌≡◌, ℕ, suc, Bool, true, false, List, [], ◌∷◌, ◌++◌}
use Rattle.ecam_spec.specs.declared.kinds.Key.{Key}
use Rattle.ecam_spec.specs.declared.kinds.Op.{Op}
use Rattle.ecam_spec.specs.declared.terms.Span.{Span}
use Rattle.ecam_spec.specs.declared.terms.Reserved.TheVariants as words
use Rattle.ecam_spec.specs.declared.terms.Token.{Token}
use Rattle.ecam_spec.specs.declared.terms.Token.TheVariants.{Word, Name, KeyWord, Number, Sign, Open, Comma, Close}

-- What a text says, with its names and numbers as they stand there.
mutual
  pub data Form : Type 0 where
    truth : Bool → Form
    name_of : Span → Form
    compare_of : Span → Op → Span → Form
    valid_of : Span → Form
    phase_of : Span → List Span → Form
    alert_of : Span → Form
    press_of : Key → Form
    fwc_of : Span → Form
    not_of : Form → Form
    rise_of : Form → Form
    all_of : Form → Forms → Form
    any_of : Form → Forms → Form
    at_least_of : Span → Form → Forms → Form
    conf_of : Form → Span → Form
    hold_of : Form → Span → Form
    latch_of : Form → Form → Form

  -- the further conditions of a list
  pub data Forms : Type 0 where
    no_more : Forms
    and_then : Form → Forms → Forms

abbrev pub how_many : Forms → ℕ
how_many no_more = 0
how_many (and_then f fs) = suc (how_many fs)

-- further phases, each after a comma
abbrev pub numbers : List Span → List Token
numbers [] = []
numbers (n ∷ ns) = Comma ∷ Number n ∷ numbers ns

unfoldable mutual
  pub spelling : Form → List Token
  spelling (truth true) = Word words.True ∷ []
  spelling (truth false) = Word words.False ∷ []
  spelling (name_of n) = Name n ∷ []
  spelling (compare_of n op x) = Name n ∷ Sign op ∷ Number x ∷ []
  spelling (valid_of n) = Word words.Valid ∷ Open ∷ Name n ∷ Close ∷ []
  spelling (phase_of n ns) = Word words.Phase ∷ Open ∷ Number n ∷ numbers ns ++ Close ∷ []
  spelling (alert_of n) = Word words.Alert ∷ Open ∷ Name n ∷ Close ∷ []
  spelling (press_of key) = Word words.Press ∷ Open ∷ KeyWord key ∷ Close ∷ []
  spelling (fwc_of n) = Word words.Fwc ∷ Open ∷ Number n ∷ Close ∷ []
  spelling (not_of f) = Word words.Not ∷ Open ∷ spelling f ++ Close ∷ []
  spelling (rise_of f) = Word words.Rise ∷ Open ∷ spelling f ++ Close ∷ []
  spelling (all_of f fs) = Word words.All ∷ Open ∷ spelling f ++ spellings fs ++ Close ∷ []
  spelling (any_of f fs) = Word words.Any ∷ Open ∷ spelling f ++ spellings fs ++ Close ∷ []
  spelling (at_least_of n f fs) = Word words.AtLeast ∷ Open ∷ Number n ∷ Comma ∷ spelling f ++ spellings fs ++ Close ∷ []
  spelling (conf_of f n) = Word words.Conf ∷ Open ∷ spelling f ++ Comma ∷ Number n ∷ Close ∷ []
  spelling (hold_of f n) = Word words.Hold ∷ Open ∷ spelling f ++ Comma ∷ Number n ∷ Close ∷ []
  spelling (latch_of s r) = Word words.Latch ∷ Open ∷ spelling s ++ Comma ∷ spelling r ++ Close ∷ []

  -- further conditions, each after a comma
  pub spellings : Forms → List Token
  spellings no_more = []
  spellings (and_then f fs) = Comma ∷ spelling f ++ spellings fs

-- the tokens spell a condition
abbrev pub IsCondition : List Token → Type 0
IsCondition ts = (f : Form) × (spelling f ≡ ts)

-- some condition begins with these tokens
abbrev pub BeginsCondition : List Token → Type 0
BeginsCondition ts = (f : Form) × (rest : List Token) × (spelling f ≡ ts ++ rest)
