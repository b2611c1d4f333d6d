use Rattle.std.proofs.Common.{◌≡◌, map, take}
use Rattle.book_model.specs.View.{source_of}
use Rattle.book_spec.specs.DraftOf.{source_in}
use Rattle.book_tables.specs.Reading.{views}
use Rattle.book_reader.proofs.draft_params.sources_in.Given as goal

abbrev pub invariant-loop-item : goal.invariant-loop-item
invariant-loop-item l = map source_of l.sources.items ≡ map source_in (views (take l.item-index l.items))
