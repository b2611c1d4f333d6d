use Rattle.std.proofs.Common.{◌≡◌, ◌-◌, ◌≤◌, length, take, drop}
use Rattle.record_maker.specs.Maker.{left_of}
use Rattle.record_maker.proofs.maker.MakerSource.read.Given as goal

abbrev pub invariant-loop-n : goal.invariant-loop-n
invariant-loop-n l = record {
  within : l.n ≤ length l.into;
  there : l.n ≤ length (left_of l.initial.self);
  moved : take l.n l.into ≡ take l.n (left_of l.initial.self);
  left : left_of l.self ≡ drop l.n (left_of l.initial.self);
}

abbrev pub decreases-loop-n : goal.decreases-loop-n
decreases-loop-n l = length l.into - l.n
