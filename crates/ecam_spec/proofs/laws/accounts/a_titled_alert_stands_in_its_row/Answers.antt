use Rattle.ecam_spec.proofs.AccountLaws.{titled_stands}
use Rattle.ecam_spec.proofs.laws.accounts.a_titled_alert_stands_in_its_row.Goals as goal

pub returns : goal.returns
returns c = titled_stands
