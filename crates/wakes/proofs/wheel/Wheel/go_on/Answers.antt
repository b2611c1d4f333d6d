use Rattle.std.proofs.Common.{arith}
use Rattle.wakes.specs.Turning.{keys_of}
use Rattle.wakes.proofs.Wheels.{goes-on, not-due}
use Rattle.wakes.proofs.wheel.Wheel.go_on.Goals as goal

pub returns-clause-turns : goal.returns-clause-turns
returns-clause-turns c = goes-on (keys_of c.args.self.now) c.args.self.now.rows c.args.self.now.time c.requires.turns c.requires.none

pub returns-clause-later : goal.returns-clause-later
returns-clause-later c = λ i lt.
    not-due (keys_of c.args.self.now) c.args.self.now.rows c.args.self.now.time c.requires.turns c.requires.time i lt (c.requires.none i (omega (arith, lt, c.requires.turns.count)))
