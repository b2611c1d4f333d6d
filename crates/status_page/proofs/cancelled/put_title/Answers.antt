use Rattle.std.proofs.Common.{List, [], ◌∷◌, cond, sym, subst, ◌∙◌}
use Rattle.ecam_spec.specs.declared.kinds.Colour.TheVariants.{Amber}
use Rattle.ecam_spec.specs.Picture.{Row, row}
use Rattle.zone_rows.specs.Tracked.{tracked}
use Rattle.status_page.specs.Behind.{AppendsBehind}
use Rattle.status_page.proofs.Behind.{behind-both, behind-text}
use Rattle.status_page.proofs.CancelledRows.{heading, titled-rows}
use Rattle.status_page.proofs.cancelled.put_title.Goals as goal

pub returns-clause-rows : goal.returns-clause-rows
returns-clause-rows c =
    let old = tracked c.args.rows.now c.args.changed.now in
    let mid = tracked c.put_heading-place.new.rows c.put_heading-place.new.changed in
    let new = tracked c.put_row.new.rows c.put_row.new.changed in
    let title = c.args.title.now.bytes in
    let first : List Row = cond c.args.titled [] (heading ∷ []) in
    let last = behind-text Amber c.as_bytes.result.now title c.put_heading-place.result c.put_row.result mid new (c.as_bytes.ensures.value ∙ c.as_str.ensures.value) c.put_row.ensures.row in
    let both = behind-both first (row Amber title ∷ []) c.args.place c.put_heading-place.result c.put_row.result old mid new c.put_heading-place.ensures.row last in
    subst (λ b. AppendsBehind (cond b (cond c.args.titled (row Amber title ∷ []) (heading ∷ row Amber title ∷ [])) []) c.args.place c.put_row.result old new) (sym c.if-not-listed.false)
    (subst (λ rows. AppendsBehind rows c.args.place c.put_row.result old new) (titled-rows c.args.titled (row Amber title)) both)
