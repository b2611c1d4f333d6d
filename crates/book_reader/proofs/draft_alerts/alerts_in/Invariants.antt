use Rattle.std.proofs.Common.{◌≡◌, false, map, take, All}
use Rattle.std.specs.List.{list_any}
use Rattle.toml.specs.View.{view}
use Rattle.book_faults.specs.Readable.{refused_in_alert}
use Rattle.book_model.specs.View.{alert_of}
use Rattle.book_spec.specs.DraftOf.{alert_in}
use Rattle.book_tables.specs.Reading.{views}
use Rattle.book_tables.specs.Catalogue.{names_in}
use Rattle.book_reader.specs.Unplaced.{IsUnplacedAlert}
use Rattle.book_reader.proofs.draft_alerts.alerts_in.Given as goal

abbrev pub invariant-loop-item : goal.invariant-loop-item
invariant-loop-item l = record {
  value : map alert_of l.alerts.items ≡ map (alert_in (names_in l.names)) (views (take l.item-index l.items));
  unplaced : All IsUnplacedAlert l.alerts.items;
  read : list_any (λ v. refused_in_alert (names_in l.names) (view v)) (take l.item-index l.items) ≡ false;
}
