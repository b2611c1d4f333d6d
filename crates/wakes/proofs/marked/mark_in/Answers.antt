use Rattle.std.proofs.Common.{◌^◌, ◌*◌, ◌/◌, ◌%◌, ◌<◌, length, get_or, bit_or, set, ap, arith}
use Rattle.std.proofs.lemmas.List.{get_or_default}
use Rattle.wakes.proofs.Bits.{marks-where}
use Rattle.wakes.proofs.marked.mark_in.Goals as goal

pub returns-clause-marks : goal.returns-clause-marks
returns-clause-marks c =
    let words = c.args.words.now in
    let word = get_or words (c.args.i / 64) 0 in
    let within : c.args.i / 64 < length words = omega (arith, c.requires) in
    marks-where words _ c.args.i word c.requires (get_or_default words (c.args.i / 64) 0 word within) c.args.on
    (ap (λ x. set words (c.args.i / 64) (bit_or word (x * 2 ^ (c.args.i % 64) % 2 ^ 64))) c.from.ensures)
