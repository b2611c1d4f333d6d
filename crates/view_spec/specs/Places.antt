-- Where a parameter that gives numbers, and a page, stand in a book, by their names.
use Rattle.std.specs.Prelude.{ℕ, Bool, true, false, ◌&&◌, Option}
use Rattle.std.specs.List.{position_from}
use Rattle.ecam_spec.specs.declared.kinds.Kind.{Kind}
use Rattle.ecam_spec.specs.declared.kinds.Kind.TheVariants.{Disc}
use Rattle.ecam_spec.specs.Bytes.{same_text}
use Rattle.ecam_spec.specs.Book.{Text, Parameter, Page, Book}

-- words of this kind give numbers
abbrev pub gives_numbers : Kind → Bool
gives_numbers Disc = false
gives_numbers _ = true

-- a parameter has this name, and gives numbers
abbrev pub is_number : Text → Parameter → Bool
is_number name p = same_text name p.name && gives_numbers p.kind

-- the place of such a parameter
unfoldable pub number_place : Book → Text → Option ℕ
number_place b name = position_from (is_number name) 0 b.parameters

-- the place of a page of this name
unfoldable pub page_place : Book → Text → Option ℕ
page_place b name = position_from (λ (p : Page). same_text name p.name) 0 b.pages
