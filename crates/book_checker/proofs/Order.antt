-- The searches in the order of the codes find the fault of the draft.
use Rattle.std.proofs.Common.{◌≡◌, ℕ, List, [], ◌∷◌, map, Option, Some, None, Bor, refl, ◌∙◌, ap, BuildHasherDefault, FoldHasher}
use Rattle.std.specs.Prelude.{not, ◌==◌}
use Rattle.std.specs.Option.{option_or}
use Rattle.std.specs.List.{list_any}
use Rattle.ecam_spec.specs.declared.kinds.BookFault.{BookFault}
use Rattle.ecam_spec.specs.declared.kinds.Kind.{Kind}
use Rattle.ecam_spec.specs.declared.kinds.Section.TheVariants as section
use Rattle.ecam_spec.specs.Book.{Text}
use Rattle.ecam_spec.specs.BookTerms.{phase_terms, line_terms}
use Rattle.ecam_spec.specs.Draft.{alert_names}
use Rattle.ecam_spec.specs.Draft as plain
use Rattle.ecam_spec.specs.DraftFaults.{has_atom, asks_phase_or_alert, asks_alert_from, misreads, one_misreads, may_sound, is_unknown, stands_early, all_phases, at_alert, draft_fault, kinds_of}
use Rattle.ecam_spec.specs.Faults.{first_item, fault_at, whole}
use Rattle.ecam_spec.specs.Places.{first_of}
use Rattle.book_model.specs.NamePlaces.{Numbers}
use Rattle.term_tree.specs.View.{named_terms}
use Rattle.book_model.specs.View.{draft_of, name_of, alert_of, memo_of, phase_of, parameter_of}
use Rattle.book_model.specs.declared.draft.Alert.{Alert}
use Rattle.book_model.specs.declared.draft.Draft.{Draft}
use Rattle.book_model.specs.declared.draft.Param.{Param}
use Rattle.book_checker.specs.declared.atoms.AtomFlaw.TheVariants.{PhaseOrAlert, Misread}
use Rattle.book_checker.specs.declared.alerts.AlertFlaw.{AlertFlaw}
use Rattle.book_checker.specs.declared.alerts.AlertFlaw.TheVariants.{AsksLaterAlert, MisreadsParameter, HasWrongSound, HasUnknownSecondary, HasEarlySecondary, IsAlwaysInhibited}
use Rattle.book_checker.specs.Flaws.{is_flawed, has_flaw, kinds_in}

-- the first that is there, asked one after the other
abbrev pub one_by_one : Option BookFault → List (Option BookFault) → Option BookFault
one_by_one f [] = f
one_by_one f (g ∷ gs) = one_by_one (option_or f g) gs

abbrev pub in_turn : List (Option BookFault) → Option BookFault
in_turn [] = None
in_turn (f ∷ fs) = one_by_one f fs

or_none : (f : Option BookFault) → f ≡ option_or f None
or_none None = refl
or_none (Some x) = refl

or_or : (f g h : Option BookFault) → option_or (option_or f g) h ≡ option_or f (option_or g h)
or_or None g h = refl
or_or (Some x) g h = refl

one_by_one-first : (f : Option BookFault) (gs : List (Option BookFault)) → one_by_one f gs ≡ option_or f (first_of gs)
one_by_one-first f [] = or_none f
one_by_one-first f (g ∷ gs) = one_by_one-first (option_or f g) gs ∙ or_or f g (first_of gs)

in_turn-first : (fs : List (Option BookFault)) → in_turn fs ≡ first_of fs
in_turn-first [] = refl
in_turn-first (f ∷ fs) = one_by_one-first f fs

names_seen : (alerts : List Alert) → map name_of alerts ≡ alert_names (map alert_of alerts)
names_seen [] = refl
names_seen (a ∷ later) = ap (λ ns. name_of a ∷ ns) (names_seen later)

kinds_seen : (params : List Param) → kinds_in params ≡ map (λ p. p.kind) (map parameter_of params)
kinds_seen [] = refl
kinds_seen (p ∷ ps) = ap (λ ks. p.kind ∷ ks) (kinds_seen ps)

-- what a search of the alerts finds
abbrev pub found : ℕ → List Text → AlertFlaw → List Alert → Option BookFault
found code names flaw alerts = fault_at code section.Alert (first_item (has_flaw names flaw) (map alert_of alerts))

module _ (p : plain.Draft) where
  -- the faults of a draft in their order, by names and kinds that are its own
  abbrev by_parts : List Text → List Kind → List (Option BookFault)
  by_parts names kinds =
      fault_at 20 section.Phase (whole (list_any (has_atom asks_phase_or_alert) (phase_terms p.phase)))
      ∷ at_alert p 21 (λ i a. has_atom (asks_alert_from i) a.when)
      ∷ fault_at 22 section.Term (first_item (λ i t. has_atom (misreads kinds) t.tree) p.terms)
      ∷ fault_at 22 section.Phase (whole (one_misreads kinds (phase_terms p.phase)))
      ∷ at_alert p 22 (λ i a. one_misreads kinds (a.when ∷ line_terms a.lines))
      ∷ fault_at 22 section.Memo (first_item (λ i m. has_atom (misreads kinds) m.when) p.memos)
      ∷ at_alert p 23 (λ i a. not (may_sound a.level a.sound))
      ∷ at_alert p 24 (λ i a. list_any (is_unknown names) a.secondary)
      ∷ at_alert p 25 (λ i a. list_any (stands_early names i) a.secondary)
      ∷ at_alert p 26 (λ i a. a.inhibit == all_phases)
      ∷ []

  by_parts-own : (names : List Text) (kinds : List Kind) → names ≡ alert_names p.alerts → kinds ≡ kinds_of p → first_of (by_parts names kinds) ≡ draft_fault p
  unfolding draft_fault
  by_parts-own names kinds names_are kinds_are =
      ap (λ ns. first_of (by_parts ns kinds)) names_are ∙ ap (λ ks. first_of (by_parts (alert_names p.alerts) ks)) kinds_are

module _ (d : Draft) (params : Bor (List Param)) (places : Bor (Numbers (BuildHasherDefault FoldHasher))) where
  -- what the searches of a draft find, to which the map of places and the parameters are lent
  abbrev pub all_found : List (Option BookFault)
  all_found =
      fault_at 20 section.Phase (whole (list_any (has_atom (is_flawed PhaseOrAlert)) (phase_terms (phase_of d.phase))))
      ∷ found 21 (map name_of d.alerts.items) AsksLaterAlert d.alerts.items
      ∷ fault_at 22 section.Term (first_item (λ i t. has_atom (is_flawed (Misread params)) t.tree) (named_terms d.terms.items))
      ∷ fault_at 22 section.Phase (whole (list_any (has_atom (is_flawed (Misread params))) (phase_terms (phase_of d.phase))))
      ∷ found 22 (map name_of d.alerts.items) (MisreadsParameter params) d.alerts.items
      ∷ fault_at 22 section.Memo (first_item (λ i m. has_atom (is_flawed (Misread params)) m.when) (map memo_of d.memos.items))
      ∷ found 23 (map name_of d.alerts.items) HasWrongSound d.alerts.items
      ∷ found 24 (map name_of d.alerts.items) (HasUnknownSecondary places) d.alerts.items
      ∷ found 25 (map name_of d.alerts.items) (HasEarlySecondary places) d.alerts.items
      ∷ found 26 (map name_of d.alerts.items) IsAlwaysInhibited d.alerts.items
      ∷ []

  pub told : params.now ≡ d.params.items → in_turn all_found ≡ draft_fault (draft_of d)
  unfolding draft_of
  told lent =
      in_turn-first all_found
      ∙ by_parts-own (draft_of d) (map name_of d.alerts.items) (kinds_in params.now) (names_seen d.alerts.items)
      (ap kinds_in lent ∙ kinds_seen d.params.items)
