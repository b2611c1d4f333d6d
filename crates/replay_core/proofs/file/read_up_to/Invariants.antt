use Rattle.std.proofs.Common.{◌≡◌, ◌≤◌, ◌-◌, length}
use Rattle.std.specs.Io.KnownBytes.{Consumes}
use Rattle.replay_core.proofs.file.read_up_to.Given as goal

-- these bytes came
abbrev pub invariant-loop-piece : goal.invariant-loop-piece
invariant-loop-piece g l = record {
  came : Consumes (g.S.Source.left l.initial.source) (g.S.Source.left l.source) l.bytes.items;
  few : length l.bytes.items ≤ l.most;
  is_open : g.S.Source.is_open l.source ≡ g.S.Source.is_open l.initial.source;
  files : g.S.Source.files l.source ≡ g.S.Source.files l.initial.source;
  opens : g.S.Source.opens l.source ≡ g.S.Source.opens l.initial.source;
  quiet : g.S.Source.faults l.source ≡ g.S.Source.faults l.initial.source;
}

abbrev pub decreases-loop-piece : goal.decreases-loop-piece
decreases-loop-piece g l = l.most - length l.bytes.items
