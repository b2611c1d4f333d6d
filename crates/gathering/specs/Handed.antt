-- Output on its way to a sink.
use Rattle.std.specs.Prelude.{◌≡◌, ℕ, List, ◌++◌}
use Rattle.ecam_io.specs.Outside.{Appended}

-- of these bytes the first are written, and the others are gathered
pub record IsHanded {S : Type 0} (agrees : S → List ℕ → Type 0) (old new : S)
    (bytes gathered : List ℕ) : Type 0 where
  pub sent : List ℕ
  pub parts : bytes ≡ sent ++ gathered
  pub written : Appended agrees old new sent
