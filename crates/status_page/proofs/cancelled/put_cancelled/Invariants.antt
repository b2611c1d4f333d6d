use Rattle.std.proofs.Common.{◌≡◌, map, take}
use Rattle.std.specs.Prelude.{filter}
use Rattle.ecam_spec.specs.Situation.{alert_at}
use Rattle.ecam_spec.specs.StatusPage.{cancelled_rows}
use Rattle.book_model.specs.Sealed.{the_book}
use Rattle.book_model.specs.Told.{flagged}
use Rattle.zone_rows.specs.Tracked.{tracked, IsWhole}
use Rattle.status_page.specs.Behind.{AppendsBehind}
use Rattle.status_page.proofs.CancelledRows.{is_some}
use Rattle.status_page.proofs.cancelled.put_cancelled.Given as goal

abbrev pub invariant-loop-i : goal.invariant-loop-i
invariant-loop-i l = record {
  whole : IsWhole (tracked l.rows l.changed);
  rows : AppendsBehind (cancelled_rows (map (alert_at (the_book l.book)) (filter (flagged l.cancelled) (take l.i l.places)))) l.fn.place l.place
      (tracked l.fn.rows l.fn.changed) (tracked l.rows l.changed);
  titled : l.titled ≡ is_some (map (alert_at (the_book l.book)) (filter (flagged l.cancelled) (take l.i l.places)));
}
