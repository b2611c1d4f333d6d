-- A book's document as one of version 2.
use Rattle.std.specs.Prelude.{pos, codes, if◌then◌else◌}
use Rattle.toml.specs.Data.{Members, no_members, member, integer, same_key}

-- the same table, in which `version` is 2
unfoldable pub in_version_2 : Members → Members
in_version_2 no_members = no_members
in_version_2 (member key value rest) =
    if same_key (codes "version") key then member key (integer (pos 2)) rest else member key value (in_version_2 rest)
