-- What the alerts of a book are, whatever the truths of their conditions and the phases: the definitions of alerts
-- with the numbers and the secondaries of the book.
use Rattle.std.specs.Prelude.{◌≡◌, ℕ, ◌<◌, Bool, false, List, get_or, Option, None, if◌then◌else◌}
use Rattle.ecam_spec.specs.Past.{Signal, previous}
use Rattle.ecam_spec.specs.Book.{Book}
use Rattle.ecam_spec.specs.Term.{in_set}
use Rattle.ecam_spec.specs.Alert as alert
use Rattle.ecam_spec.specs.Situation.{alert_at, primaries}

-- among n alerts, a list of flags tells in which of them p held in the moment before k
abbrev pub Tells : ℕ → List Bool → (ℕ → Signal) → ℕ → Type 0
Tells n flags p k = (a : ℕ) → a < n → get_or flags a false ≡ previous (p a) k

-- what follows from when which alerts are active
module _ (b : Book) (active : ℕ → Signal) where
  abbrev pub starred_where : ℕ → Signal
  starred_where a = alert.starred active (primaries b a) a

  -- the first active primary of a starred alert
  abbrev pub starred_by_where : ℕ → ℕ → Option ℕ
  starred_by_where a k = if starred_where a k then alert.starred_by active (primaries b a) k else None

  abbrev pub up_where : ℕ → Signal
  up_where a = alert.up (active a) (starred_where a)

module _ (b : Book) (conditions : ℕ → Signal) (phases : ℕ → ℕ) where
  abbrev pub present : ℕ → Signal
  present a = alert.present (alert_at b a).confirm (conditions a)

  abbrev pub inhibited : ℕ → Signal
  inhibited a k = in_set (alert_at b a).inhibit (phases k)

  abbrev pub active : ℕ → Signal
  active a = alert.active (inhibited a) (present a)

  abbrev pub waiting : ℕ → Signal
  waiting a = alert.waiting (present a) (active a)

  abbrev pub starred : ℕ → Signal
  starred = starred_where b active

  -- the first active primary of a starred alert, in the book's order
  abbrev pub starred_by : ℕ → ℕ → Option ℕ
  starred_by = starred_by_where b active

  abbrev pub up : ℕ → Signal
  up = up_where b active
