use Rattle.std.proofs.Common.{arith}
use Rattle.wakes.specs.Turning.{keys_of}
use Rattle.wakes.proofs.Wheels.{set-looks}
use Rattle.wakes.proofs.wheel.Wheel.set.Goals as goal

pub returns-clause-turns : goal.returns-clause-turns
returns-clause-turns c =
    let old = c.args.self.now in
    set-looks (keys_of old) old.rows c.wait.new.rows old.time c.args.item c.args.key (omega (arith, c.requires.item, c.requires.turns.count)) c.wait.ensures.never c.wait.ensures.waits c.requires.turns
    c.wait.ensures.rows c.wait.ensures.count
