-- What may stand as a name and as a text in a book. The rules are this project's own.
use Rattle.std.specs.Prelude.{ℕ, ◌-◌, Bool, not, ◌&&◌, ◌==◌, List, length, map, slice_index}
use Rattle.std.specs.List.{list_any, list_all}
use Rattle.ecam_spec.specs.declared.limits.TheConstants.{NAME, TERM_TEXT}
use Rattle.ecam_spec.specs.Bytes.{is_between, is_small_letter, is_name_byte, same_text}
use Rattle.ecam_spec.specs.Book.{Text}
use Rattle.ecam_spec.specs.Token.{reserved_words}

-- the words of conditions, which are no names
unfoldable pub reserved : List Text
reserved = map (λ w. w.0) reserved_words

-- small letters, digits and `_`, no more than a name has, with a letter first, and no reserved word
unfoldable pub is_name : Text → Bool
is_name t =
    is_between 1 NAME (length t) && (is_small_letter (slice_index t 0) && (list_all is_name_byte t && not (list_any (same_text t) reserved)))

-- printable ASCII
abbrev pub is_printable : Text → Bool
is_printable t = list_all (is_between 32 126) t

-- printable ASCII, 1 to `most` bytes, with no blank at either end
unfoldable pub is_text : ℕ → Text → Bool
is_text most t =
    is_between 1 most (length t) && (is_printable t && (not (slice_index t 0 == 32) && not (slice_index t (length t - 1) == 32)))

-- what a condition is read from: printable ASCII, 1 byte and no more than a condition's text has
unfoldable pub is_term_text : Text → Bool
is_term_text t = is_between 1 TERM_TEXT (length t) && is_printable t
