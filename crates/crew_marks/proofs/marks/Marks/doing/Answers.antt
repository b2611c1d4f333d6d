use Rattle.std.proofs.Common.{◌≡◌, suc, ◌∙◌, ap}
use Rattle.ecam_spec.specs.Past.{running_since}
use Rattle.crew_marks.specs.CrewMarks.{CrewMarks}
use Rattle.crew_marks.specs.declared.mark.Actions.{Actions}
use Rattle.crew_marks.proofs.Ending.{held-long}
use Rattle.crew_marks.proofs.marks.Marks.doing.Goals as goal

pub returns-clause-sees : goal.returns-clause-sees
returns-clause-sees c = λ b cockpit k ups waits sees stands.
    let now : c.self.inside.moments ≡ k = ap (λ (m : CrewMarks). m.moments) c.self.view_is ∙ stands.moments in
    let held : c.running_after-held_since.result ≡ running_since cockpit.rcl_held (suc k) =
    c.running_after-held_since.ensures cockpit.rcl_held k now (c.held.ensures ∙ sees.rcl_held)
    (ap (λ (m : CrewMarks). m.held_since) c.self.view_is ∙ stands.held_since) in
    let does = c.actions_of.ensures in (
      record {
        clr = ap (λ (x : Actions). x.clr) does ∙ sees.clr;
        rcl = ap (λ (x : Actions). x.rcl) does ∙ sees.rcl;
        emer = ap (λ (x : Actions). x.emer) does ∙ sees.emer;
        restores = ap (λ (x : Actions). x.restores) does
            ∙ held-long cockpit k c.restores-restores.result c.args.enters_one
            (c.restores-restores.ensures cockpit.rcl_held k now held) sees.enters_one;
      },
      held,
    )
