use Rattle.std.proofs.Common.{◌≡◌, map, take}
use Rattle.book_model.specs.View.{bytes_of}
use Rattle.book_spec.specs.Defaults.{short_name}
use Rattle.book_tables.specs.Reading.{views}
use Rattle.book_reader.proofs.draft_alerts.secondaries_in.Given as goal

abbrev pub invariant-loop-item : goal.invariant-loop-item
invariant-loop-item l = map bytes_of l.names.items ≡ map short_name (views (take l.item-index l.items))
