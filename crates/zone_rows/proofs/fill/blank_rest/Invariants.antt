use Rattle.zone_rows.specs.Tracked.{tracked, IsWhole}
use Rattle.zone_rows.proofs.Filling.{Blanked}
use Rattle.zone_rows.proofs.fill.blank_rest.Given as goal

abbrev pub invariant-loop-i : goal.invariant-loop-i
invariant-loop-i l = record {
  whole : IsWhole (tracked l.rows l.changed);
  blanked : Blanked l.first l.room l.count l.i (tracked l.initial.rows l.initial.changed) (tracked l.rows l.changed);
}
