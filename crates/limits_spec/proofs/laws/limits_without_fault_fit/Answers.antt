use Rattle.limits_spec.proofs.laws.limits_without_fault_fit.Goals as goal
use Rattle.limits_spec.proofs.Fitting.{limits_fit}

pub returns : goal.returns
returns c b bytes l h = limits_fit b bytes l h
