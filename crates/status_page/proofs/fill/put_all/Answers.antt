use Rattle.ecam_spec.specs.StatusPage.{sections, status_rows}
use Rattle.status_page.proofs.Behind.{behind-none, behind-both}
use Rattle.status_page.proofs.fill.put_all.Goals as goal

pub returns-clause-rows : goal.returns-clause-rows
unfolding status_rows sections
returns-clause-rows c =
    let inop = behind-both _ _ _ _ _ _ _ _ (c.put_section-inop.ensures.rows) (behind-none c.put_section-inop.result _) in
    let information = behind-both _ _ _ _ _ _ _ _ (c.put_section-information.ensures.rows) inop in
    let procedure = behind-both _ _ _ _ _ _ _ _ (c.put_section-procedure.ensures.rows) information in
    let approach = behind-both _ _ _ _ _ _ _ _ (c.put_section-approach.ensures.rows) procedure in
    let limitations = behind-both _ _ _ _ _ _ _ _ (c.put_section-limitations.ensures.rows) approach in
    behind-both _ _ _ _ _ _ _ _ limitations (c.put_cancelled.ensures.rows)
