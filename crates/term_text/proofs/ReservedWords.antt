-- A word is reserved where it is one of the reserved words.
use Rattle.std.proofs.Common.{◌≡◌, Bool, true, false, ◌||◌, List, [], ◌∷◌, Some, cond, refl}
use Rattle.std.specs.Prelude.{map, find, is_some, option_map}
use Rattle.std.specs.List.{list_any}
use Rattle.ecam_spec.specs.declared.terms.Reserved.{Reserved}
use Rattle.ecam_spec.specs.Bytes.{same_text}
use Rattle.ecam_spec.specs.Book.{Text}
use Rattle.ecam_spec.specs.BookText.{reserved}
use Rattle.ecam_spec.specs.Token.{reserved_words, reserved_of}

named : (word : Text) (ws : List (Text × Reserved)) → is_some (option_map (λ w. w.1) (find (λ w. same_text word w.0) ws)) ≡ list_any (same_text word) (map (λ w. w.0) ws)
named word [] = refl
named word (w ∷ ws) = here (same_text word w.0) (named word ws) where
  here : (b : Bool) → is_some (option_map (λ v. v.1) (find (λ v. same_text word v.0) ws)) ≡ list_any (same_text word) (map (λ v. v.0) ws)
      → is_some (option_map (λ v. v.1) (cond b (Some w) (find (λ v. same_text word v.0) ws))) ≡ (b || list_any (same_text word) (map (λ v. v.0) ws))
  here true rest = refl
  here false rest = rest

pub is_reserved_word : (word : Text) → is_some (reserved_of word) ≡ list_any (same_text word) reserved
unfolding reserved_of reserved
is_reserved_word word = named word reserved_words
