use Rattle.std.proofs.Common.{take}
use Rattle.book_tables.specs.Reading.{texts_of}
use Rattle.book_tables.specs.Places.{CountsNames}
use Rattle.book_tables.proofs.places.counts_of.Given as goal

abbrev pub invariant-loop-name : goal.invariant-loop-name
invariant-loop-name l = CountsNames (texts_of (take l.name-index l.names)) l.counts
