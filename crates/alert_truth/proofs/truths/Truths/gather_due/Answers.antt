use Rattle.std.proofs.Common.{◌||◌, leb, ap, ◌∙◌}
use Rattle.std.specs.Prelude.{slice_index}
use Rattle.alert_truth.proofs.Gathering.{Gathers, gathered-fits, gathered-half, gathered-others}
use Rattle.alert_truth.proofs.truths.Truths.gather_due.Goals as goal
use Rattle.alert_truth.proofs.truths.Truths.gather_due.Goals.{After-take_due}

gathers : (c : After-take_due) → Gathers c.args.turned c.args.self.now c.take_due.new.dues c.take_due.new.due c.clear.new.self
gathers c = record {
  emptied = c.clear.ensures.room;
  places = c.take_due.ensures.room ∙ c.begin_due.ensures.room;
  len = c.take_due.ensures.len;
  marks = λ a within. c.take_due.ensures.marks a within ∙ ap (λ on. leb (slice_index c.args.self.now.dues a) c.args.self.now.moments || on) (c.begin_due.ensures.marks a);
  keys = c.take_due.ensures.keys;
}

pub returns-clause-fits : goal.returns-clause-fits
returns-clause-fits c = λ b fits. gathered-fits b c.args.turned c.args.self.now c.take_due.new.dues c.take_due.new.due c.clear.new.self (gathers c) fits

pub returns-clause-stands : goal.returns-clause-stands
returns-clause-stands c = λ b conditions phases k stands. gathered-half b conditions phases c.args.turned c.args.self.now c.take_due.new.dues c.take_due.new.due c.clear.new.self (gathers c) k stands

pub returns-clause-others : goal.returns-clause-others
returns-clause-others c = λ b conditions phases k stands phase.
    gathered-others b conditions phases c.args.turned c.args.self.now c.take_due.new.dues c.take_due.new.due c.clear.new.self (gathers c) k stands phase
