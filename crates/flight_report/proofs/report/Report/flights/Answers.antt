use Rattle.std.proofs.Common.{subst}
use Rattle.view_spec.specs.FlightReport.{last_flight}
use Rattle.flight_report.specs.Kept.{IsLast}
use Rattle.flight_report.proofs.Flights.{count-some, count-none}
use Rattle.flight_report.proofs.report.Report.flights.Goals as goal

pub returns-in-Some : goal.returns-in-Some
returns-in-Some c = λ course n last. count-some course n c.in-Some.flight (subst (IsLast course n (last_flight course n)) c.in-Some.is last)

pub returns-in-None : goal.returns-in-None
returns-in-None c = λ course n last. count-none course n (subst (IsLast course n (last_flight course n)) c.in-None.is last)
