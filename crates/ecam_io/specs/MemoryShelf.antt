-- What callers see of a shelf in memory.
use Rattle.std.specs.Prelude.{Option, ◌≡◌, ℕ, ◌+◌, ◌-◌, ◌^◌, ◌<◌, Bool, List, [], drop, map, length, Some, None, slice_index_or, string_bytes}
use Rattle.ecam_io.specs.Outside.{ReadCall}
use Rattle.ecam_io.specs.declared.memory_shelf.MemoryFile.{MemoryFile}

-- Its files, each a name and what it holds; the numbers of the calls that fail, and the most bytes that a read
-- gives; whether one is open, and what is left of it; and how many calls, opens and faults there were.
pub record ShelfState : Type 0 where
  pub files : List (List ℕ × List ℕ)
  pub failing : List ℕ
  pub piece : ℕ
  pub is_open : Bool
  pub left : List ℕ
  pub calls : ℕ
  pub opens : ℕ
  pub faults : ℕ

-- the calls of `read` were so many: what `open` doesn't account for, while the count of calls hasn't reached its end
abbrev pub HasRead : ShelfState → List ReadCall → Type 0
HasRead s reads = s.calls < 2 ^ 64 - 1 → length reads + s.opens ≡ s.calls

-- the files as pairs of a name and what it holds
abbrev pub files_of : List MemoryFile → List (List ℕ × List ℕ)
files_of files = map (λ file. (string_bytes file.name, file.bytes.items)) files

-- what is left of the file with that number after that many bytes were taken; nothing where none is open
abbrev pub left_of : List (List ℕ × List ℕ) → Option ℕ → ℕ → List ℕ
left_of files None taken = []
left_of files (Some i) taken = drop taken (slice_index_or files i ([], [])).1
