use Rattle.std.proofs.Common.{[], ◌∷◌, cond, sym, subst, ◌∙◌}
use Rattle.std.proofs.lemmas.Bool.{eq-eqb}
use Rattle.ecam_spec.specs.Picture.{row}
use Rattle.zone_rows.specs.Tracked.{tracked}
use Rattle.status_page.specs.Behind.{AppendsBehind}
use Rattle.status_page.proofs.Behind.{behind-text}
use Rattle.status_page.proofs.sections.put_line.Goals as goal

pub returns-clause-row : goal.returns-clause-row
returns-clause-row c =
    let old = tracked c.args.rows.now c.args.changed.now in
    let new = tracked c.put_row.new.rows c.put_row.new.changed in
    subst (λ b. AppendsBehind (cond b (row c.args.colour c.args.line.now.text.bytes ∷ []) []) c.args.place c.put_row.result old new) (sym (eq-eqb _ _ c.if-line-section.false))
    (behind-text c.args.colour c.as_bytes.result.now c.args.line.now.text.bytes c.args.place c.put_row.result old new (c.as_bytes.ensures.value ∙ c.as_str.ensures.value) c.put_row.ensures.row)
