-- The faults of a draft, codes 20 to 26: it keeps its limits, and yet is no book.
use Rattle.std.specs.Prelude.{ℕ, ◌-◌, Bool, true, false, not, ◌||◌, ◌==◌, nat_le, List, [], ◌∷◌, map, slice_get, Option, Some, None}
use Rattle.std.specs.List.{list_any}
use Rattle.ecam_spec.specs.declared.kinds.Kind.{Kind}
use Rattle.ecam_spec.specs.declared.kinds.Kind.TheVariants.{Disc}
use Rattle.ecam_spec.specs.declared.kinds.Level.{Level}
use Rattle.ecam_spec.specs.declared.kinds.Level.TheVariants.{One, Two, Three}
use Rattle.ecam_spec.specs.declared.kinds.Sound.{Sound}
use Rattle.ecam_spec.specs.declared.kinds.Sound.TheVariants.{Quiet, Chime}
use Rattle.ecam_spec.specs.declared.kinds.Section.TheVariants as section
use Rattle.ecam_spec.specs.declared.kinds.BookFault.{BookFault}
use Rattle.ecam_spec.specs.declared.limits.TheConstants.{PHASE_SETS}
use Rattle.ecam_spec.specs.Places.{first_of}
use Rattle.ecam_spec.specs.Bytes.{same_text, place_of}
use Rattle.ecam_spec.specs.Book.{Text, Tree, Trees, constant, discrete, valid, compared, in_phase, alert, press, computer, negation, all, any, at_least, confirmed, held, risen, latched, none, more}
use Rattle.ecam_spec.specs.BookTerms.{phase_terms, line_terms}
use Rattle.ecam_spec.specs.Draft.{DraftAlert, Draft, alert_names}
use Rattle.ecam_spec.specs.Faults.{first_item, fault_at, whole}

unfoldable mutual
  -- an atom of the condition is so
  pub has_atom : (Tree → Bool) → Tree → Bool
  has_atom is_so (negation c) = has_atom is_so c
  has_atom is_so (all cs) = have_atom is_so cs
  has_atom is_so (any cs) = have_atom is_so cs
  has_atom is_so (at_least n cs) = have_atom is_so cs
  has_atom is_so (confirmed c n) = has_atom is_so c
  has_atom is_so (held c n) = has_atom is_so c
  has_atom is_so (risen c) = has_atom is_so c
  has_atom is_so (latched s r) = has_atom is_so s || has_atom is_so r
  has_atom is_so (constant b) = is_so (constant b)
  has_atom is_so (discrete p) = is_so (discrete p)
  has_atom is_so (valid p) = is_so (valid p)
  has_atom is_so (compared p op x) = is_so (compared p op x)
  has_atom is_so (in_phase set) = is_so (in_phase set)
  has_atom is_so (alert a) = is_so (alert a)
  has_atom is_so (press key) = is_so (press key)
  has_atom is_so (computer n) = is_so (computer n)

  pub have_atom : (Tree → Bool) → Trees → Bool
  have_atom is_so none = false
  have_atom is_so (more c cs) = has_atom is_so c || have_atom is_so cs

-- 20: the flight phase rests on the inputs, so no input asks for a phase or an alert
abbrev pub asks_phase_or_alert : Tree → Bool
asks_phase_or_alert (in_phase set) = true
asks_phase_or_alert (alert a) = true
asks_phase_or_alert _ = false

-- 21: an alert asks only for earlier alerts
abbrev pub asks_alert_from : ℕ → Tree → Bool
asks_alert_from i (alert a) = nat_le i a
asks_alert_from i _ = false

-- 22: a parameter named alone is a discrete, and one that is compared is a number
abbrev pub is_discrete : Option Kind → Bool
is_discrete (Some Disc) = true
is_discrete _ = false

abbrev pub misreads : List Kind → Tree → Bool
misreads kinds (discrete p) = not (is_discrete (slice_get kinds p))
misreads kinds (compared p op x) = is_discrete (slice_get kinds p)
misreads kinds _ = false

-- some of these conditions misread a parameter
abbrev pub one_misreads : List Kind → List Tree → Bool
one_misreads kinds terms = list_any (has_atom (misreads kinds)) terms

-- 23: the sounds that a level may have: level 1 none, level 2 none or the chime, level 3 any but these two
abbrev pub may_sound : Level → Sound → Bool
may_sound One Quiet = true
may_sound One _ = false
may_sound Two Quiet = true
may_sound Two Chime = true
may_sound Two _ = false
may_sound Three Quiet = false
may_sound Three Chime = false
may_sound Three _ = true

-- 24: a secondary is an alert's name
abbrev pub is_unknown : List Text → Text → Bool
is_unknown names name = not (list_any (same_text name) names)

-- 25: a secondary stands later in the book than its primary
abbrev pub is_at_most : ℕ → Option ℕ → Bool
is_at_most i None = false
is_at_most i (Some s) = nat_le s i

abbrev pub stands_early : List Text → ℕ → Text → Bool
stands_early names i name = is_at_most i (place_of names name)

-- 26: the set of all ten phases is the last
abbrev pub all_phases : ℕ
all_phases = PHASE_SETS - 1

module _ (d : Draft) where
  abbrev pub kinds_of : List Kind
  kinds_of = map (λ p. p.kind) d.parameters

  abbrev pub at_alert : ℕ → (ℕ → DraftAlert → Bool) → Option BookFault
  at_alert code is_so = fault_at code section.Alert (first_item is_so d.alerts)

  -- the fault of a draft that is sound
  unfoldable pub draft_fault : Option BookFault
  draft_fault = first_of (
      fault_at 20 section.Phase (whole (list_any (has_atom asks_phase_or_alert) (phase_terms d.phase)))
      ∷ at_alert 21 (λ i a. has_atom (asks_alert_from i) a.when)
      ∷ fault_at 22 section.Term (first_item (λ i t. has_atom (misreads kinds_of) t.tree) d.terms)
      ∷ fault_at 22 section.Phase (whole (one_misreads kinds_of (phase_terms d.phase)))
      ∷ at_alert 22 (λ i a. one_misreads kinds_of (a.when ∷ line_terms a.lines))
      ∷ fault_at 22 section.Memo (first_item (λ i m. has_atom (misreads kinds_of) m.when) d.memos)
      ∷ at_alert 23 (λ i a. not (may_sound a.level a.sound))
      ∷ at_alert 24 (λ i a. list_any (is_unknown (alert_names d.alerts)) a.secondary)
      ∷ at_alert 25 (λ i a. list_any (stands_early (alert_names d.alerts) i) a.secondary)
      ∷ at_alert 26 (λ i a. a.inhibit == all_phases)
      ∷ [])
