-- What `drill` writes.
use Rattle.std.specs.Prelude.{ℕ, ◌++◌, length, count_by, codes, decimal}
use Rattle.ecam_io.specs.Tally.{as_count, is_line_feed, begins_block, lines_of}
use Rattle.ecam_spec.specs.Book.{Text, Book}
use Rattle.ecam_spec.specs.Command.{no_limit}
use Rattle.ecam_spec.specs.Output.{line}
use Rattle.ecam_spec.specs.Replay.{reply}
use Rattle.record_maker.specs.Record.{made}

-- the counts of an output: its blocks, which are the lines that begin with `@`, its lines, and
-- its bytes
unfoldable pub counts_line : ℕ → Text → Text
counts_line moments output =
    line (
    codes "moments " ++ decimal moments
    ++ codes " blocks " ++ decimal (as_count (count_by begins_block (lines_of output)))
    ++ codes " lines " ++ decimal (as_count (count_by is_line_feed output))
    ++ codes " bytes " ++ decimal (as_count (length output)))

-- those of the made record's replay
unfoldable pub drill_line : ℕ → ℕ → Book → Text
drill_line seed moments b = counts_line moments (reply b (made seed moments) no_limit)
