use Rattle.std.proofs.Common.{◌≡◌, map, take}
use Rattle.book_model.specs.View.{row_of}
use Rattle.book_spec.specs.DraftOf.{row_in}
use Rattle.book_tables.specs.Reading.{views}
use Rattle.book_tables.specs.Catalogue.{names_in}
use Rattle.book_reader.proofs.draft_pages.rows_in.Given as goal

abbrev pub invariant-loop-item : goal.invariant-loop-item
invariant-loop-item l = map row_of l.rows.items ≡ map (row_in (names_in l.names)) (views (take l.item-index l.items))
