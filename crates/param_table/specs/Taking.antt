-- Which sources take a word.
use Rattle.std.specs.Prelude.{ℕ, Bool, List}
use Rattle.ecam_spec.specs.Book.{Parameter}
use Rattle.ecam_spec.specs.Value.{BusWord, takes}
use Rattle.book_model.specs.SourcePlaces.{passes}

-- the source at a place takes the word
abbrev pub takes_at : List Parameter → BusWord → ℕ → Bool
takes_at params w = passes (λ s. takes s w) params
