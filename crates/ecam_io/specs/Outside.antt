-- What lies outside the program: the files of a shelf, the bytes that a sink holds, and the counts of faults and of opens.
use Rattle.std.specs.Prelude.{Option, ◌≡◌, ◌≢◌, ◌⊎◌, ℕ, ◌+◌, ◌-◌, ◌^◌, ◌<◌, min, Bool, List, [], ◌∷◌, ◌++◌, ⊤, Some, None, IsSomeAnd, Result, if◌then◌else◌, ◌==◌}
use Rattle.std.specs.Result.{result_ok}
use Rattle.std.specs.Io.{StartsWith}
use Rattle.std.specs.Io.KnownBytes.{IsAtEnd}
use Rattle.std.specs.Str.{bytes_eq}
use Rattle.std.specs.List.{list_any}

-- one more, in a count that ends at 2^64 - 1
abbrev pub raised : ℕ → ℕ
raised count = min (count + 1) (2 ^ 64 - 1)

-- a count of faults rose in a call: it is greater afterwards, or stands at its end
abbrev pub Rose : ℕ → ℕ → Type 0
Rose before now = now ≢ 2 ^ 64 - 1 → before < now

-- a call fails whose number, after that many calls, is among the failing ones
abbrev pub fails_after : List ℕ → ℕ → Bool
fails_after failing calls = list_any (λ n. n == raised calls) failing

-- what the first file of that name holds, where the files are pairs of a name and what it holds
abbrev pub file_named : List (List ℕ × List ℕ) → List ℕ → Option (List ℕ)
file_named [] name = None
file_named (file ∷ files) name = if bytes_eq file.0 name then Some file.1 else file_named files name

-- where a shelf tells its files, one has that name, and P holds of the bytes of the first such file
abbrev pub FileHas : Option (List (List ℕ × List ℕ)) → List ℕ → (List ℕ → Type 0) → Type 0
FileHas None name P = ⊤
FileHas (Some files) name P = IsSomeAnd (file_named files name) P

-- a shelf tells its files, and none has that name
abbrev pub LacksFile : Option (List (List ℕ × List ℕ)) → List ℕ → Type 0
LacksFile None name = ⊥
LacksFile (Some files) name = file_named files name ≡ None

-- an open may fail: the count of faults rose, or the shelf tells its files and lacks this one
abbrev pub MayRefuse : Option (List (List ℕ × List ℕ)) → List ℕ → ℕ → ℕ → Type 0
MayRefuse files name before now = Rose before now ⊎ LacksFile files name

-- nothing is open: a shelf that tells its files tells that nothing is left, and no other has bytes left that it tells
abbrev pub IsClosed : Option (List (List ℕ × List ℕ)) → Option (List ℕ) → Type 0
IsClosed None left = IsAtEnd left
IsClosed (Some files) left = left ≡ Some []

-- a call of a source's `read`: for how many bytes it asked, and how many it gave; none where it failed
pub record ReadCall : Type 0 where
  pub asked : ℕ
  pub given : Option ℕ

-- the call that asked for so many bytes and answered this
abbrev pub read_call : {E : Type 0} → ℕ → Result ℕ E → ReadCall
read_call asked answer = record { asked = asked; given = result_ok answer }

-- these were appended, bytes to a sink or calls to those of a source: after each list with which the state agreed, it
-- agrees with that list and these
abbrev pub Appended : {S A : Type 0} → (S → List A → Type 0) → S → S → List A → Type 0
Appended agrees old new these = (w : List _) → agrees old w → agrees new (w ++ these)

-- nothing was appended
abbrev pub IsKept : {S A : Type 0} → (S → List A → Type 0) → S → S → Type 0
IsKept agrees old new = (w : List _) → agrees old w → agrees new w

-- a prefix of the bytes was appended
pub record AppendedPrefix {S : Type 0} (agrees : S → List ℕ → Type 0) (old new : S) (bytes : List ℕ) : Type 0 where
  pub part : List ℕ
  pub prefix : StartsWith bytes part
  pub appended : Appended agrees old new part
