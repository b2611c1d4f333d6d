-- Flags joined to one text.
use Rattle.std.specs.Prelude.{◌≡◌, ◌<◌, List, length, codes, All}
use Rattle.std.specs.List.{join_by}
use Rattle.ecam_spec.specs.Book.{Text}

-- with one blank between them
abbrev pub joined : List Text → Text
joined flags = join_by (λ t. t) (codes " ") flags

-- the text is these flags, none of which is empty
pub record IsJoined (flags : List Text) (written : Text) : Type 0 where
  pub text : written ≡ joined flags
  pub each : All (λ f. 0 < length f) flags
