-- Records as lines, and a record without the lines on which computers fail and come up.
use Rattle.std.specs.Prelude.{Bool, false, not, ◌&&◌, ◌==◌, nat_le, List, ◌++◌, length, flat_map}
use Rattle.std.specs.Prelude.{filter, Option, Some, None, codes}
use Rattle.std.specs.List.{list_all}
use Rattle.ecam_spec.specs.declared.kinds.Event.{Event}
use Rattle.ecam_spec.specs.declared.limits.TheConstants.{RECORD_LINE}
use Rattle.ecam_spec.specs.Book.{Text}
use Rattle.ecam_spec.specs.History.{changes_computers}
use Rattle.ecam_spec.specs.Output.{line}
use Rattle.ecam_spec.specs.RecordLine.{event_of, is_end_event}

-- an event is said, and not the record's end
abbrev pub says_event : Option Event → Bool
says_event (Some e) = not (is_end_event e)
says_event None = false

-- a line of a record without its line feed: at most 32 bytes, which say an event
unfoldable pub is_line : Text → Bool
is_line bytes =
    says_event (event_of bytes)
    && (nat_le (length bytes) RECORD_LINE && list_all (λ b. not (b == 10)) bytes)

-- a computer fails or comes up
abbrev pub is_failure : Option Event → Bool
is_failure (Some e) = changes_computers e
is_failure None = false

-- the lines on which none does
abbrev pub without_failure_lines : List Text → List Text
without_failure_lines lines = filter (λ l. not (is_failure (event_of l))) lines

-- the bytes of a record of these lines and the one that ends it
unfoldable pub record_of : List Text → Text
record_of lines = flat_map line lines ++ line (codes "E")
