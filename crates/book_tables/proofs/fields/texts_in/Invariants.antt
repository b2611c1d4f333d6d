use Rattle.std.proofs.Common.{◌≡◌, map, take}
use Rattle.book_spec.specs.Document.{text_of}
use Rattle.book_tables.specs.Reading.{texts_of, views}
use Rattle.book_tables.proofs.fields.texts_in.Given as goal

abbrev pub invariant-loop-value : goal.invariant-loop-value
invariant-loop-value l = texts_of l.texts.items ≡ map text_of (views (take l.value-index l.values))
