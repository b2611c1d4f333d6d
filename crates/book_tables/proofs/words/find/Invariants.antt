use Rattle.std.proofs.Common.{◌≡◌, drop}
use Rattle.term_text.specs.Words.{found_in}
use Rattle.book_tables.proofs.words.find.Given as goal

abbrev pub invariant-loop-name : goal.invariant-loop-name
invariant-loop-name g l = found_in l.table l.word ≡ found_in (drop l.name-index l.table) l.word
