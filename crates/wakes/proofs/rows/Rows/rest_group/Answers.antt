use Rattle.std.proofs.Common.{◌-◌, ◌*◌, ◌%◌, ◌^◌, ◌<◌, length, slice_index, slice_set, bit_and, refl, arith}
use Rattle.std.proofs.lemmas.List.{get_or_default}
use Rattle.wakes.proofs.Places.{rest-busy, was-busy, other-busy}
use Rattle.wakes.proofs.rows.Rows.rest_group.Goals as goal

pub returns-clause-rows : goal.returns-clause-rows
returns-clause-rows c =
    let old = c.args.self.now in
    let is = c.requires.rows in
    let row = c.args.row in
    let group = c.args.group in
    let b = slice_index old.busy row in
    let within : row < length old.busy = omega (arith, c.requires.row) in
    let here = get_or_default old.busy row 0 b within in
    let mask = 18446744073709551615 - 1 * 2 ^ group % 2 ^ 64 in
    let busy' = slice_set old.busy row (bit_and b mask) in
    record {
      few = is.few;
      grouped = is.grouped;
      room = is.room;
      within = is.within;
      busy = rest-busy old is busy' row group b within c.requires.group here refl c.requires.none;
      groups = λ r g low on. is.groups r g low (was-busy old is busy' row b mask within here refl r g on);
    }

pub returns-clause-busy : goal.returns-clause-busy
returns-clause-busy c = λ g on.
    let old = c.args.self.now in
    let is = c.requires.rows in
    let row = c.args.row in
    let group = c.args.group in
    let b = slice_index old.busy row in
    let within : row < length old.busy = omega (arith, c.requires.row) in
    let here = get_or_default old.busy row 0 b within in
    let mask = 18446744073709551615 - 1 * 2 ^ group % 2 ^ 64 in
    let busy' = slice_set old.busy row (bit_and b mask) in
    (other-busy old is busy' row group b within c.requires.group here refl g on, was-busy old is busy' row b mask within here refl row g on)
