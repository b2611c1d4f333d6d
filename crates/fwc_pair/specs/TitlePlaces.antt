-- Which rows of the left zone are seen.
use Rattle.std.specs.Prelude.{ℕ, nat_le, Option, Some, None, if◌then◌else◌}

-- a row that is one of the first seven
abbrev pub in_zone : Option ℕ → Option ℕ
in_zone None = None
in_zone (Some r) = if nat_le r 7 then Some r else None
