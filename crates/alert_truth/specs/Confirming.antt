-- When the confirmation of an alert is complete.
use Rattle.std.specs.Prelude.{ℕ, ◌+◌, min, Bool, Option, if◌then◌else◌}
use Rattle.std.specs.Option.{option_map_or}
use Rattle.wakes.specs.Due.{never}

-- the moment from which an alert is present if its condition goes on holding, where that has held since a moment and the
-- alert isn't present yet
abbrev pub confirmed_at : ℕ → Option ℕ → Bool → ℕ
confirmed_at confirm since is_present = if is_present then never else option_map_or (λ s. min (s + confirm) never) since never
