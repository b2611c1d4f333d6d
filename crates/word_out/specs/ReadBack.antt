-- What a reader of the written words learns of an alert.
use Rattle.std.specs.Prelude.{◌≡◌, ℕ, ◌+◌, ◌/◌, ◌%◌, ◌≤◌, ℤ, pos, List, [], ◌∷◌, Option, Some, None, if◌then◌else◌}
use Rattle.ecam_spec.specs.declared.kinds.Event.{Event}
use Rattle.ecam_spec.specs.declared.kinds.Kind.TheVariants.{Disc}
use Rattle.ecam_spec.specs.Book.{Book, Source, Parameter}
use Rattle.ecam_spec.specs.Replay.{moment_of}
use Rattle.ecam_spec.specs.Screen.{is_shown_in}
use Rattle.view_spec.specs.Ticks.{live, era_at, moment_at}
use Rattle.view_spec.specs.OutputWords.{label_of, sdi_of}

-- the number of the word that tells of alert a
abbrev pub word_for : ℕ → ℕ
word_for a = 1 + a / 16

-- a discrete of one source: on bus 15 the alert's bit of its word, by label and SDI, which stays fresh for ten seconds at
-- least
pub record ReadsAlert (a : ℕ) (p : Parameter) (s : Source) : Type 0 where
  pub kind : p.kind ≡ Disc
  pub stale : 100 ≤ p.stale
  pub source : p.sources ≡ s ∷ []
  pub bus : s.bus ≡ 15
  pub label : s.label ≡ label_of (word_for a)
  pub sdi : s.sdi ≡ Some (sdi_of (word_for a))
  pub bit : s.bit ≡ 11 + a % 16

-- at Tick t the alert is shown or isn't, and where no computer is up there is no value
unfoldable pub alert_value : Book → List Event → ℕ → ℕ → Option ℤ
alert_value b h t a =
    if live h t
    then Some (pos (if is_shown_in b (moment_of (era_at h t)) a (moment_at h t) then 1 else 0))
    else None
