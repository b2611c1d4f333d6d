use Rattle.std.proofs.Common.{◌≡◌, take}
use Rattle.ecam_spec.specs.Book as plain
use Rattle.fwc_lane.specs.TermsFit.{AreWoken}
use Rattle.fwc_lane.specs.Waking.{CanTurn, TurnsEach}
use Rattle.fwc_lane.proofs.Turning.{AddsEach}
use Rattle.fwc_lane.proofs.waking.turn_each.Given as goal

abbrev pub invariant-loop-asker : goal.invariant-loop-asker
invariant-loop-asker l = record {
  turns : (b : plain.Book) → CanTurn b l.asking l.codes l.fn.cells.nodes l.fn.woken l.fn.stirred → TurnsEach b (take l.asker-index l.asking) l.reading l.fn.cells.nodes l.fn.stirred l.cells.nodes l.stirred;
  adds : (b : plain.Book) → CanTurn b l.asking l.codes l.fn.cells.nodes l.fn.woken l.fn.stirred → AddsEach b (take l.asker-index l.asking) l.fn.woken l.woken l.fresh;
  slots : l.cells.slots ≡ l.fn.cells.slots;
  owners : l.cells.owners ≡ l.fn.cells.owners;
  visits : l.cells.visits ≡ l.fn.cells.visits;
  stirs : AreWoken l.fn.woken l.fn.stirred → AreWoken l.woken l.stirred;
}
