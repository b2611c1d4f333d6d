use Rattle.fwc_pair.proofs.Accounts.{titled_there}
use Rattle.fwc_pair.proofs.laws.a_titled_alert_stands_in_its_row.Goals as goal

pub returns : goal.returns
returns c = titled_there
