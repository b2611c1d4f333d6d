use Rattle.std.proofs.Common.{refl}
use Rattle.ecam_spec.specs.Opened.{opened}
use Rattle.ecam_spec.specs.BookTerms.{terms_of}
use Rattle.ecam_spec.specs.TermSize.{slots, slots_of}
use Rattle.term_eval.specs.Woken.{operands, moved, turns}
use Rattle.book_model.specs.Conditions.{joined, world_of}
use Rattle.fwc_lane.specs.Visits.{visits_below}
use Rattle.fwc_pair.specs.PairVisits.{visits_before}
use Rattle.worked_visits.proofs.three_ticks_visit_eight_nodes_none_and_two.Goals as goal

pub returns-clause-first : goal.returns-clause-first
unfolding opened terms_of slots slots_of operands moved turns joined world_of visits_below
returns-clause-first c = refl

pub returns-clause-second : goal.returns-clause-second
unfolding opened terms_of slots slots_of operands moved turns joined world_of visits_below
returns-clause-second c = refl

pub returns-clause-third : goal.returns-clause-third
unfolding opened terms_of slots slots_of operands moved turns joined world_of visits_below
returns-clause-third c = refl

pub returns-clause-total : goal.returns-clause-total
unfolding opened terms_of slots slots_of operands moved turns joined world_of visits_below visits_before
returns-clause-total c = refl
