-- What a program keeps from moment to moment to answer what the definitions ask of the whole past.
use Rattle.std.specs.Prelude.{ℕ, zero, suc, ◌+◌, if◌then◌else◌}
use Rattle.std.specs.Option.{option_and_then}
use Rattle.ecam_spec.specs.declared.kinds.Choice.{Choice}
use Rattle.ecam_spec.specs.declared.kinds.Choice.TheVariants.{Auto}
use Rattle.ecam_spec.specs.Past.{moment_after, count_from}
use Rattle.ecam_spec.specs.Selection.{Panel, is_cancel, selecting, selects_status, last_but_status, choice}

-- the choice of the last of the first k moments; before the first it is automatic
abbrev pub choice_before : Panel → ℕ → Choice
choice_before p zero = Auto
choice_before p (suc k) = choice p k

-- the number of the status page that STS shows next, after the first k moments: how often it was pressed since
-- the last selecting moment of another kind, and one more after EMER CANC, which itself showed the first
abbrev pub status_ahead : Panel → ℕ → ℕ
status_ahead p zero = 0
status_ahead p (suc k) =
    let b = last_but_status p k in
    count_from (moment_after b) (selects_status p) k + (if is_cancel (option_and_then (selecting p) b) then 1 else 0)
