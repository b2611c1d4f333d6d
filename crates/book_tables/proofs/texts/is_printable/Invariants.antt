use Rattle.std.proofs.Common.{◌≡◌, take}
use Rattle.ecam_spec.specs.BookText.{is_printable}
use Rattle.book_tables.proofs.texts.is_printable.Given as goal

abbrev pub invariant-loop-byte : goal.invariant-loop-byte
invariant-loop-byte l = l.so_far ≡ is_printable (take l.byte-index l.text)
