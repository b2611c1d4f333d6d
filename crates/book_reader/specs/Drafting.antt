-- Parts of the draft's definitions, as the reader's functions answer them.
use Rattle.std.specs.Prelude.{ℕ, List, fold, bit_or, codes, unwrap_or, Option}
use Rattle.std.specs.List.{filter_map}
use Rattle.toml.specs.Data.{Data, Members, no_members, as_table, get_member}
use Rattle.ecam_spec.specs.Book.{Text}
use Rattle.ecam_spec.specs.TermNumber.{one_phase}
use Rattle.ecam_spec.specs.Bytes.{place_of}
use Rattle.book_spec.specs.Fields.{◌>>=◌, string_at}
use Rattle.book_spec.specs.Rules.{Names}
use Rattle.book_spec.specs.Defaults.{phase_from}

-- the set of the phases among some values
abbrev pub set_of : List Data → ℕ
set_of values = fold (λ set p. bit_or set (one_phase p)) 0 (filter_map phase_from values)

-- the places that the names at keys have
abbrev pub parameter_at : Names → Text → Members → Option ℕ
parameter_at names key table = string_at key table >>= place_of names.of_terms.parameters

abbrev pub page_at : Names → Text → Members → Option ℕ
page_at names key table = string_at key table >>= place_of names.pages

abbrev pub system_at : Names → Text → Members → Option ℕ
system_at names key table = string_at key table >>= place_of names.systems

-- the table of the flight phase, empty where there is none
abbrev pub phase_table : Members → Members
phase_table top = unwrap_or (get_member (codes "phase") top >>= as_table) no_members
