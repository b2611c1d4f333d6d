-- The record that is made of a seed.
use Rattle.std.specs.Prelude.{ℕ, ◌+◌, ◌*◌, List, ◌++◌, flat_map, codes}
use Rattle.ecam_spec.specs.Book.{Text}
use Rattle.ecam_spec.specs.Output.{line}
use Rattle.ecam_spec.specs.Places.{below}
use Rattle.record_maker.specs.Draws.{draw, start_of}
use Rattle.record_maker.specs.Lines.{moment_lines}

-- some lines, each with its line feed
unfoldable pub text_of : List Text → Text
text_of lines = flat_map line lines

-- so many moments, the first of them with this number, by three draws each after this one
unfoldable pub moments : ℕ → ℕ → ℕ → Text
moments first s count =
    flat_map (λ i. text_of (moment_lines (first + i) (draw s (3 * i)))) (below count)

-- the whole record
unfoldable pub made : ℕ → ℕ → Text
made seed count = moments 0 (start_of seed) count ++ line (codes "E")
