use Rattle.std.proofs.Common.{◌≡◌, map, take}
use Rattle.book_model.specs.View.{parameter_of}
use Rattle.book_spec.specs.DraftOf.{parameter_in}
use Rattle.book_tables.specs.Reading.{views}
use Rattle.book_reader.proofs.draft_params.parameters_in.Given as goal

abbrev pub invariant-loop-item : goal.invariant-loop-item
invariant-loop-item l = map parameter_of l.params.items ≡ map parameter_in (views (take l.item-index l.items))
