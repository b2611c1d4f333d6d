use Rattle.std.proofs.Common.{◌*◌, ◌/◌, ◌%◌, ◌^◌, ◌<◌, refl, length, slice_index, slice_set, bit_or, ◌∙◌, arith}
use Rattle.std.proofs.lemmas.List.{get_or_default, length-set}
use Rattle.std.specs.Box.{boxed_slice_items}
use Rattle.wakes.proofs.Places.{bit-set, in-group, few-groups, small-shift, place-inside, put-waits, put-within, put-busy, put-groups}
use Rattle.wakes.proofs.rows.Rows.put.Goals as goal

pub index_mut-requires : goal.index_mut-requires
index_mut-requires c =
    let inside = place-inside c.args.self.now c.requires.rows c.args.moment c.args.item c.place.result (omega (arith, c.requires.item)) c.place.ensures in
    omega (arith, inside)

pub overflow_shr-self : goal.overflow_shr-self
overflow_shr-self c = small-shift c.args.self.now c.requires.rows

pub returns-clause-rows : goal.returns-clause-rows
returns-clause-rows c =
    let old = c.args.self.now in
    let is = c.requires.rows in
    let m = c.args.moment in
    let item = c.args.item in
    let v = c.index_mut.result.now in
    let x = bit_or v (1 * 2 ^ (item % 64) % 2 ^ 64) in
    let words = boxed_slice_items old.words in
    let new = slice_set words c.place.result x in
    let b = slice_index old.busy (m % 64) in
    let group = item / 2 ^ old.shift in
    let busy' = slice_set old.busy (m % 64) (bit_or b (1 * 2 ^ group % 2 ^ 64)) in
    let row : m % 64 < length old.busy = omega arith in
    let waits = put-waits old is new m item c.place.result v c.requires.item c.place.ensures c.index_mut.ensures.value refl in
    let busy = bit-set old.busy busy' (m % 64) group b row (omega (arith, in-group old is item (omega (arith, c.requires.item)), few-groups old is)) (get_or_default old.busy (m % 64) 0 b row) refl in
    record {
      few = is.few;
      grouped = is.grouped;
      room = length-set words c.place.result x ∙ is.room;
      within = λ r i low lt. put-within old is new busy' m item c.requires.item waits busy r i low (omega (arith, lt, length-set words c.place.result x));
      busy = put-busy old is new busy' m item c.requires.item waits busy;
      groups = put-groups old is new busy' m item c.requires.item waits busy;
    }

pub returns-clause-waits : goal.returns-clause-waits
returns-clause-waits c = λ r i low lt.
    let old = c.args.self.now in
    put-waits old c.requires.rows (slice_set (boxed_slice_items old.words) c.place.result (bit_or c.index_mut.result.now (1 * 2 ^ (c.args.item % 64) % 2 ^ 64)))
    c.args.moment c.args.item c.place.result c.index_mut.result.now c.requires.item c.place.ensures c.index_mut.ensures.value refl r i low
