use Rattle.std.proofs.Common.{◌≡◌, map, take}
use Rattle.book_model.specs.View.{status_of}
use Rattle.book_spec.specs.DraftOf.{status_in}
use Rattle.book_tables.specs.Reading.{views}
use Rattle.book_reader.proofs.draft_alerts.statuses_in.Given as goal

abbrev pub invariant-loop-item : goal.invariant-loop-item
invariant-loop-item l = map status_of l.lines.items ≡ map status_in (views (take l.item-index l.items))
