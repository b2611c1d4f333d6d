use Rattle.std.proofs.Common.{◌≡◌, map, take}
use Rattle.book_model.specs.View.{page_of}
use Rattle.book_spec.specs.DraftOf.{page_in}
use Rattle.book_tables.specs.Reading.{views}
use Rattle.book_tables.specs.Catalogue.{names_in}
use Rattle.book_reader.proofs.draft_pages.pages_in.Given as goal

abbrev pub invariant-loop-item : goal.invariant-loop-item
invariant-loop-item l = map page_of l.pages.items ≡ map (page_in (names_in l.names)) (views (take l.item-index l.items))
