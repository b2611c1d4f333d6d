-- What was taken so far told of no answer yet.
use Rattle.std.proofs.Common.{◌≡◌, ◌≤◌, None}
use Rattle.record_lines.specs.Reader.{room, settled, wait}
use Rattle.record_lines.specs.Reads.{Takes, Goes}
use Rattle.record_lines.proofs.Asking.{Asking}
use Rattle.record_lines.proofs.reader.LineReader.next_other.Given as goal

abbrev pub invariant-pieces : goal.invariant-pieces
invariant-pieces g l = record {
  unsettled : settled l.self ≡ None;
  took : Takes (g.S.Source.left l.initial.source) (g.S.Source.left l.source) (λ more. Goes l.initial.self l.self more);
  fewer : room l.self ≤ room l.initial.self;
  asking : Asking g.S.Source.reads l.initial.self l.self l.initial.source l.source;
  quiet : g.S.Source.faults l.source ≡ g.S.Source.faults l.initial.source;
  is_open : g.S.Source.is_open l.source ≡ g.S.Source.is_open l.initial.source;
  files : g.S.Source.files l.source ≡ g.S.Source.files l.initial.source;
  opens : g.S.Source.opens l.source ≡ g.S.Source.opens l.initial.source;
}

abbrev pub decreases-pieces : goal.decreases-pieces
decreases-pieces g l = wait l.self
