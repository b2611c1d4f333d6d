use Rattle.std.proofs.Common.{◌≡◌, map}
use Rattle.book_model.specs.View.{name_of, alert_of}
use Rattle.book_checker.specs.Flaws.{has_flaw}
use Rattle.book_checker.proofs.Searching.{from_place}
use Rattle.book_checker.proofs.searches.alert_fault.Given as goal

-- none of the alerts so far has the flaw
abbrev pub invariant-loop-place : goal.invariant-loop-place
invariant-loop-place l =
    from_place alert_of (has_flaw (map name_of l.alerts) l.flaw) l.alerts 0
    ≡ from_place alert_of (has_flaw (map name_of l.alerts) l.flaw) l.alerts l.place
