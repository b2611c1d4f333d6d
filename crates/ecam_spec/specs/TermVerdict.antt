-- What a condition's text is answered with: the rule, which asks for a spelling and not for a way to read it.
use Rattle.std.specs.Prelude.{◌≡◌, ◌⊎◌, ℕ, List, [], ◌∷◌, ◌++◌, length, map}
use Rattle.ecam_spec.specs.declared.terms.Token.{Token}
use Rattle.ecam_spec.specs.Book.{Text}
use Rattle.ecam_spec.specs.Token.{tokens, Placed}
use Rattle.ecam_spec.specs.Grammar.{Form, spelling, BeginsCondition, IsCondition}
use Rattle.ecam_spec.specs.TermText.{TermNames, Outcome, syntax_error, judged}

abbrev pub words_of : List Placed → List Token
words_of ts = map (λ t. t.1) ts

-- the token at a place doesn't fit: some condition begins with the tokens before it, and none with these and it
pub record StopsAtToken (ts : List Placed) (at : ℕ) : Type 0 where
  pub before : List Placed
  pub token : Token
  pub after : List Placed
  pub split : ts ≡ before ++ (at, token) ∷ after
  pub begins : BeginsCondition (words_of before)
  pub ends : BeginsCondition (words_of before ++ token ∷ []) → ⊥

-- the text ends too early: some condition begins with all of its tokens, and they are none
pub record StopsAtEnd (ts : List Placed) : Type 0 where
  pub begins : BeginsCondition (words_of ts)
  pub short : IsCondition (words_of ts) → ⊥

-- the first token that fits nowhere stands at a place; the end of the text counts as a last token
abbrev pub StopsAt : Text → ℕ → Type 0
StopsAt text at = StopsAtToken (tokens text) at ⊎ (StopsAtEnd (tokens text) × (at ≡ length text))

-- What a text is answered with: where its first token stands that fits nowhere, or what the condition that it
-- spells is judged to be.
unfoldable pub IsVerdict : TermNames → Text → Outcome → Type 0
IsVerdict names text (syntax_error at) = StopsAt text at
IsVerdict names text outcome = (f : Form) × (spelling f ≡ words_of (tokens text)) × (judged names text f ≡ outcome)
