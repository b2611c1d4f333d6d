-- A draft of a phase table alone is sound where the conditions are.
use Rattle.std.proofs.Common.{◌≡◌, ◌<◌, Bool, [], refl, sym, subst, arith}
use Rattle.std.proofs.lemmas.List.Elements.{All-nil}
use Rattle.ecam_spec.specs.TermSize.{nodes, depth}
use Rattle.ecam_spec.specs.TermNames.{IsWithin}
use Rattle.ecam_spec.specs.Draft as plain
use Rattle.ecam_spec.specs.Book as book
use Rattle.ecam_spec.specs.KeepsLimits.{IsSound, IsSoundTerm, IsSoundPhase, IsInRange}
use Rattle.ecam_kinds.specs.declared.phase.PhaseSet.{PhaseSet}
use Rattle.term_tree.specs.declared.cond.Cond.TheVariants.{Const, InPhase}
use Rattle.term_tree.specs.View.{tree_of}
use Rattle.term_tree.proofs.Views.{tree_of-Const, tree_of-InPhase}
use Rattle.book_model.specs.declared.draft.Draft.{Draft}
use Rattle.book_model.specs.View.{draft_of, phase_of}

pub constant_sound : (b : Bool) → IsSoundTerm 0 0 (tree_of (Const b))
unfolding IsWithin IsInRange nodes depth
constant_sound b =
    subst (IsSoundTerm 0 0) (sym (tree_of-Const b)) (record { within = tt; in_range = tt; small = omega arith; flat = omega arith })

pub phases_sound : (set : PhaseSet) → set.0 < 1024 → IsSoundTerm 0 0 (tree_of (InPhase set))
unfolding IsWithin IsInRange nodes depth
phases_sound set small =
    subst (IsSoundTerm 0 0) (sym (tree_of-InPhase set)) (record { within = tt; in_range = small; small = omega arith; flat = omega arith })

abbrev alone : book.PhaseTerms → plain.Draft
alone p = record { systems = []; pages = []; parameters = []; terms = []; phase = p; alerts = []; memos = [] }

is_alone : (d : Draft) → d.systems.items ≡ [] → d.pages.items ≡ [] → d.params.items ≡ [] → d.terms.items ≡ [] → d.alerts.items ≡ [] → d.memos.items ≡ []
    → draft_of d ≡ alone (phase_of d.phase)
unfolding draft_of
is_alone d systems pages params terms alerts memos = rw (systems, pages, params, terms, alerts, memos) refl

alone_sound : (p : book.PhaseTerms) → IsSoundPhase 0 0 p → IsSound (alone p)
alone_sound p sound = record {
  system_count = omega arith;
  systems = All-nil _;
  systems_once = All-nil _;
  page_count = omega arith;
  pages = All-nil _;
  pages_once = All-nil _;
  parameter_count = omega arith;
  parameters = All-nil _;
  parameters_once = All-nil _;
  term_count = omega arith;
  terms = All-nil _;
  terms_once = All-nil _;
  phase = sound;
  alert_count = omega arith;
  alerts = All-nil _;
  alerts_once = All-nil _;
  memo_count = omega arith;
  memos = All-nil _;
  memos_once = All-nil _;
}

pub sound_alone : (d : Draft) → d.systems.items ≡ [] → d.pages.items ≡ [] → d.params.items ≡ [] → d.terms.items ≡ [] → d.alerts.items ≡ [] → d.memos.items ≡ []
    → IsSoundPhase 0 0 (phase_of d.phase) → IsSound (draft_of d)
sound_alone d systems pages params terms alerts memos sound =
    subst IsSound (sym (is_alone d systems pages params terms alerts memos)) (alone_sound (phase_of d.phase) sound)
