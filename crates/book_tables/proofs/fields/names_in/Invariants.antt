use Rattle.std.proofs.Common.{◌≡◌, map, take}
use Rattle.book_spec.specs.Document.{name_of}
use Rattle.book_tables.specs.Reading.{texts_of, views}
use Rattle.book_tables.proofs.fields.names_in.Given as goal

abbrev pub invariant-loop-item : goal.invariant-loop-item
invariant-loop-item l = texts_of l.names.items ≡ map name_of (views (take l.item-index l.items))
