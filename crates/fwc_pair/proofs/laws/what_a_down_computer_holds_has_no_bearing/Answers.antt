use Rattle.std.proofs.Common.{sym, ap, ◌∙◌}
use Rattle.ecam_spec.specs.History.{none_up}
use Rattle.fwc_pair.proofs.Histories.{go_on_alike, same_standing}
use Rattle.fwc_pair.proofs.laws.what_a_down_computer_holds_has_no_bearing.Goals as goal

pub returns-clause-same : goal.returns-clause-same
returns-clause-same c = λ b g h p q one other agree later.
    go_on_alike b g h later
    (record {
      flags = sym one.flags ∙ agree.flags ∙ other.flags;
      face = sym one.face ∙ agree.face ∙ other.face;
      era = λ up. agree.era (ap none_up other.flags ∙ up);
    })

pub returns-clause-pictures : goal.returns-clause-pictures
returns-clause-pictures c = λ b g h same p q one other. one.face ∙ same.face ∙ sym other.face

pub returns-clause-standings : goal.returns-clause-standings
returns-clause-standings c = λ b g h same a. same_standing b g h a same
