-- What the commands show of a record that have a definition of their own.
use Rattle.std.specs.Prelude.{ℕ, List, [], Option, Some, None}
use Rattle.ecam_spec.specs.Book.{Text, Book}
use Rattle.view_spec.specs.Places.{number_place}
use Rattle.view_spec.specs.Callouts as calls
use Rattle.view_spec.specs.Advisories as advisories
use Rattle.view_spec.specs.Advisories.{Advisory}
use Rattle.view_spec.specs.FlightReport.{report_text, report_closing}
use Rattle.view_spec.specs.OutputWords.{words_text, words_end}
use Rattle.record_views.specs.Showing.{Showing}

-- what is called out of the parameter at that place; where there is none nothing is written
abbrev pub calls_of : Book → Option ℕ → Showing
calls_of b None = record { text = λ h. []; closing = λ h. [] }
calls_of b (Some param) = record { text = calls.text b param; closing = calls.closing }

abbrev pub called_out : Text → Book → Showing
called_out name b = calls_of b (number_place b name)

-- the advisories by these limits
abbrev pub advised : List Advisory → Book → Showing
advised ls b = record { text = advisories.text b ls; closing = advisories.closing }

-- what occurred in each flight
abbrev pub report_of : Book → Showing
report_of b = record { text = report_text b; closing = report_closing b }

-- the computers' own words
abbrev pub words_of : Book → Showing
words_of b = record { text = words_text b; closing = λ h. words_end }
