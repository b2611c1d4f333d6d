use Rattle.std.proofs.Common.{arith}
use Rattle.std.proofs.lemmas.Grind.{common_steps}
use Rattle.std.proofs.lemmas.List.Elements.{All-push, All-same}
use Rattle.book_tables.specs.Catalogue.{names_in}
use Rattle.book_tables.proofs.Items.{any_views}
use Rattle.book_faults.specs.Readable.{refused_in_alert}
use Rattle.book_reader.specs.Unplaced.{IsUnplacedAlert}
use Rattle.book_reader.proofs.draft_alerts.alerts_in.Goals as goal

pub loop-item-preserved : goal.loop-item-preserved
loop-item-preserved c = record {
  value = grind (arith, common_steps);
  read = grind (arith, common_steps);
  unplaced = All-same IsUnplacedAlert c.push.new.self.items _ c.in_ok-push.ensures.items
      (All-push IsUnplacedAlert c.loop-item.alerts.items c.in_ok-alert_in.field-0 c.loop-item.invariant.unplaced c.in_ok-alert_in.ensures.unplaced);
}

pub returns-clause-read : goal.returns-clause-read
returns-clause-read c = grind (arith, common_steps, any_views (refused_in_alert (names_in c.args.names.now)) c.args.items.now)
