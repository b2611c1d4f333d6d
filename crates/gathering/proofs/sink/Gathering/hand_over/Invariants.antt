use Rattle.std.proofs.Common.{◌≡◌, [], length}
use Rattle.gathering.specs.Handed.{IsHanded}
use Rattle.gathering.proofs.sink.Gathering.hand_over.Given as goal

abbrev pub invariant-loop-self : goal.invariant-loop-self
invariant-loop-self g l = record {
  same_sink : l.self.out.ghost_name ≡ l.initial.self.out.ghost_name;
  handed : IsHanded g.O.Sink.agrees l.initial.self.out.now l.self.out.now l.initial.self.bytes.items l.self.bytes.items;
  still : l.initial.self.bytes.items ≡ [] → l.self.bytes.items ≡ [];
  quiet : g.O.Sink.faults l.self.out.now ≡ g.O.Sink.faults l.initial.self.out.now;
}

abbrev pub decreases-loop-self : goal.decreases-loop-self
decreases-loop-self g l = length l.self.bytes.items
