-- What the flaws that the searches look for mean.
use Rattle.std.specs.Prelude.{ℕ, Bool, not, ◌==◌, List, ◌∷◌, map}
use Rattle.std.specs.List.{list_any}
use Rattle.ecam_spec.specs.declared.kinds.Kind.{Kind}
use Rattle.ecam_spec.specs.Book.{Text, Tree}
use Rattle.ecam_spec.specs.BookTerms.{line_terms}
use Rattle.ecam_spec.specs.Draft.{DraftAlert}
use Rattle.ecam_spec.specs.DraftFaults.{has_atom, asks_phase_or_alert, asks_alert_from, misreads, one_misreads, may_sound, is_unknown, stands_early, all_phases}
use Rattle.book_model.specs.NamePlaces.{FindsPlaces}
use Rattle.book_model.specs.declared.draft.Param.{Param}
use Rattle.book_checker.specs.declared.atoms.AtomFlaw.{AtomFlaw}
use Rattle.book_checker.specs.declared.atoms.AtomFlaw.TheVariants.{PhaseOrAlert, AlertFrom, Misread}
use Rattle.book_checker.specs.declared.alerts.AlertFlaw.{AlertFlaw}
use Rattle.book_checker.specs.declared.alerts.AlertFlaw.TheVariants.{AsksLaterAlert, MisreadsParameter, HasWrongSound, HasUnknownSecondary, HasEarlySecondary, IsAlwaysInhibited}

abbrev pub kinds_in : List Param → List Kind
kinds_in params = map (λ p. p.kind) params

-- an atom has the flaw
abbrev pub is_flawed : AtomFlaw → Tree → Bool
is_flawed PhaseOrAlert = asks_phase_or_alert
is_flawed (AlertFrom place) = asks_alert_from place
is_flawed (Misread params) = misreads (kinds_in params.now)

-- an alert at a place has the flaw, in a book whose alerts have these names
abbrev pub has_flaw : List Text → AlertFlaw → ℕ → DraftAlert → Bool
has_flaw names AsksLaterAlert = λ i a. has_atom (asks_alert_from i) a.when
has_flaw names (MisreadsParameter params) = λ i a. one_misreads (kinds_in params.now) (a.when ∷ line_terms a.lines)
has_flaw names HasWrongSound = λ i a. not (may_sound a.level a.sound)
has_flaw names (HasUnknownSecondary places) = λ i a. list_any (is_unknown names) a.secondary
has_flaw names (HasEarlySecondary places) = λ i a. list_any (stands_early names i) a.secondary
has_flaw names IsAlwaysInhibited = λ i a. a.inhibit == all_phases

-- a flaw that knows places knows those of these names
abbrev pub Knows : List Text → AlertFlaw → Type 0
Knows names AsksLaterAlert = Unit {0}
Knows names (MisreadsParameter params) = Unit {0}
Knows names HasWrongSound = Unit {0}
Knows names (HasUnknownSecondary places) = FindsPlaces names places.now
Knows names (HasEarlySecondary places) = FindsPlaces names places.now
Knows names IsAlwaysInhibited = Unit {0}
