-- Parts of the definitions, as the reader's functions answer them.
use Rattle.std.specs.Prelude.{ℕ, ◌+◌, ◌-◌, ◌*◌, Bool, not, ◌&&◌, ◌==◌, nat_le, length, slice_index, Option, None, if◌then◌else◌}
use Rattle.ecam_spec.specs.Book.{Text}
use Rattle.book_spec.specs.Fields.{passing, is_octal}

-- neither end is a blank
abbrev pub has_no_blank_end : Text → Bool
has_no_blank_end text = not (slice_index text 0 == 32) && not (slice_index text (length text - 1) == 32)

-- the label of three digits
abbrev pub label_of : ℕ → ℕ → ℕ → Option ℕ
label_of a b c =
    if is_octal a && (is_octal b && is_octal c) then passing (λ n. nat_le n 255) ((a - 48) * 64 + (b - 48) * 8 + (c - 48)) else None
