use Rattle.ecam_spec.proofs.ProperPictures.{picture-at-proper, last-picture-proper}
use Rattle.ecam_spec.proofs.laws.rows.a_row_is_empty_exactly_where_it_is_blank.Goals as goal

pub returns-clause-at : goal.returns-clause-at
returns-clause-at c = picture-at-proper

pub returns-clause-last : goal.returns-clause-last
returns-clause-last c = last-picture-proper
