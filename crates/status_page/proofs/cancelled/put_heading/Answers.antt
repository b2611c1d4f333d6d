use Rattle.std.proofs.Common.{sym, subst, cond, []}
use Rattle.std.specs.Prelude.{◌∷◌}
use Rattle.zone_rows.specs.Tracked.{tracked}
use Rattle.status_page.specs.Behind.{AppendsBehind}
use Rattle.status_page.proofs.CancelledRows.{heading}
use Rattle.status_page.proofs.cancelled.put_heading.Goals as goal

pub returns-clause-row : goal.returns-clause-row
returns-clause-row c = subst (λ b. AppendsBehind (cond b [] (heading ∷ [])) c.args.place c.put_row.result (tracked c.args.rows.now c.args.changed.now) (tracked c.put_row.new.rows c.put_row.new.changed)) (sym c.if-titled.false) c.put_row.ensures.row
