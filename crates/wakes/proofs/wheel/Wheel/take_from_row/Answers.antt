use Rattle.std.proofs.Common.{◌%◌, length, ap, arith}
use Rattle.wakes.specs.Turning.{keys_of}
use Rattle.wakes.proofs.Wheels.{taken-looks}
use Rattle.wakes.proofs.wheel.Wheel.take_from_row.Goals as goal

pub returns-clause-turns : goal.returns-clause-turns
returns-clause-turns c =
    let put = c.put_on.new.self in
    taken-looks (keys_of put) put.rows c.take_out.new.self put.time (put.time % 64) c.in_ok-next.next
    (omega (arith, ap length c.put_on.ensures.keys, c.in_ok-next.ensures.first.0)) c.put_on.ensures.turns c.take_out.ensures.rows c.take_out.ensures.count c.take_out.ensures.waits
