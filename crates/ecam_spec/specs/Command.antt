-- The words of a command line, and what they ask for. The forms are this project's own.
use Rattle.std.specs.Prelude.{ℕ, ◌-◌, ◌^◌, ◌&&◌, nat_le, List, [], ◌∷◌, length, Option, Some, None, option_map, codes, if◌then◌else◌}
use Rattle.std.specs.Char.{is_ascii_digit}
use Rattle.std.specs.List.{list_all}
use Rattle.ecam_spec.specs.Bytes.{same_text}
use Rattle.ecam_spec.specs.Book.{Text}
use Rattle.ecam_spec.specs.TermNumber.{digits_value}

-- check a book; replay a record by a book, under a limit on the record's bytes; tell where each alert stands at a
-- record's end; replay the record that is made of a seed and a number of moments; write a book again in version 2; tell
-- which heights a parameter, by its name, comes down to; tell which values drift out of the ranges of a file of limits;
-- report what occurred in each flight; write the computers' own words. Files go by their names.
pub data Command : Type 0 where
  check : Text → Command
  replay : Text → Text → ℕ → Command
  why : Text → Text → Command
  drill : Text → ℕ → ℕ → Command
  migrate : Text → Command
  callouts : Text → Text → Text → Command
  advise : Text → Text → Text → Command
  report : Text → Text → Command
  words : Text → Text → Command

-- without a limit of its own a record has this one
abbrev pub no_limit : ℕ
no_limit = 4294967295

-- the number that a word of decimal digits spells, where it has no more digits than so many and isn't larger than this
unfoldable pub number_of : ℕ → ℕ → Text → Option ℕ
number_of longest most word =
    if nat_le 1 (length word) && nat_le (length word) longest && list_all is_ascii_digit word && nat_le (digits_value word) most
    then Some (digits_value word) else None

abbrev pub limit_of : Text → Option ℕ
limit_of = number_of 10 no_limit

abbrev pub seed_of : Text → Option ℕ
seed_of = number_of 20 (2 ^ 64 - 1)

abbrev pub moments_of : Text → Option ℕ
moments_of = number_of 7 1000000

-- the forms with two words, with three, with four and with five
abbrev pub form_of_two : Text → Text → Option Command
form_of_two form book =
    if same_text form (codes "check") then Some (check book)
    else (if same_text form (codes "migrate") then Some (migrate book) else None)

abbrev pub form_of_three : Text → Text → Text → Option Command
form_of_three form book record' =
    if same_text form (codes "replay") then Some (replay book record' no_limit)
    else (if same_text form (codes "why") then Some (why book record')
    else (if same_text form (codes "report") then Some (report book record')
    else (if same_text form (codes "words") then Some (words book record') else None)))

abbrev pub drill_of : Text → Option ℕ → Option ℕ → Option Command
drill_of book (Some seed) (Some moments) = Some (drill book seed moments)
drill_of book (Some seed) None = None
drill_of book None moments = None

abbrev pub form_of_four : Text → Text → Text → Text → Option Command
form_of_four form book second third =
    if same_text form (codes "drill") then drill_of book (seed_of second) (moments_of third)
    else (if same_text form (codes "callouts") then Some (callouts book second third)
    else (if same_text form (codes "advise") then Some (advise book second third) else None))

abbrev pub form_of_five : Text → Text → Text → Text → Text → Option Command
form_of_five form book record' option limit =
    if same_text form (codes "replay") && same_text option (codes "--limit") then option_map (replay book record') (limit_of limit) else None

-- what words ask for, if they have one of the forms
unfoldable pub command_of : List Text → Option Command
command_of (form ∷ book ∷ []) = form_of_two form book
command_of (form ∷ book ∷ record' ∷ []) = form_of_three form book record'
command_of (form ∷ book ∷ second ∷ third ∷ []) = form_of_four form book second third
command_of (form ∷ book ∷ record' ∷ option ∷ limit ∷ []) = form_of_five form book record' option limit
command_of _ = None

-- the line that tells the forms
abbrev pub usage : Text
usage = codes "usage: check BOOK | replay BOOK RECORD [--limit N] | why BOOK RECORD | drill BOOK SEED MOMENTS | migrate BOOK | callouts BOOK RECORD NAME | advise BOOK RECORD LIMITS | report BOOK RECORD | words BOOK RECORD"
