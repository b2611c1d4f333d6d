-- When an index finds the sources that listen to a bus and a label, by the bits as they stand in a word.
use Rattle.std.specs.Prelude.{◌≡◌, ℕ, ◌+◌, ◌*◌, ◌%◌, List, length, get_or, Some, None}
use Rattle.std.specs.Int.{reverse_bits, w8}
use Rattle.ecam_spec.specs.Word.{label}
use Rattle.ecam_spec.specs.Book.{Source, Parameter}
use Rattle.book_model.specs.SourcePlaces.{source_at, listens, last_below}
use Rattle.book_model.specs.declared.index.Index.{Index}

-- the first eight bits of the words with this label
abbrev pub turned : ℕ → ℕ
turned label = reverse_bits w8 label

-- a bus and the first eight bits of a word as one number
abbrev pub key_of : ℕ → ℕ → ℕ
key_of bus eight = 256 * bus + eight

-- from the last place of a source that listens to a bus and a label, the index leads down through all of them
pub record IsIndex (params : List Parameter) (x : Index) : Type 0 where
  pub last : (bus word : ℕ) → get_or x.last.items.items (key_of bus (word % 256)) None ≡ last_below (listens params bus (label word)) (3 * length params)
  pub count : length x.before.items.items ≡ 3 * length params
  pub before : (q : ℕ) (s : Source) → source_at params q ≡ Some s → get_or x.before.items.items q None ≡ last_below (listens params s.bus s.label) q
