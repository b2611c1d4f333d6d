use Rattle.std.proofs.Common.{◌≡◌, ◌+◌, ◌%◌, ◌<◌, length, inl, inr, ap, ◌∙◌, arith}
use Rattle.std.proofs.lemmas.Bool.{cases_lt, cases_eq}
use Rattle.std.specs.Box.{boxed_slice_items}
use Rattle.wakes.specs.Turning.{keys_of, waits_in}
use Rattle.wakes.proofs.Wheels.{key-here, not-due, put-looks, put-own, put-others, same-looks}
use Rattle.wakes.proofs.wheel.Wheel.put_on.Goals as goal

pub returns-then-key-now-clause-first : goal.returns-then-key-now-clause-first
returns-then-key-now-clause-first c =
    let inv = c.loop-item.invariant in
    let keys = keys_of c.args.self.now in
    let same : boxed_slice_items c.loop-item.self.keys ≡ keys = ap boxed_slice_items inv.keys in
    let within : c.loop-item.item < length keys = omega (arith, c.loop-item-test.true, c.len.ensures, ap length same) in
    let is = key-here _ keys c.loop-item.item c.index-key.result.now same within c.index-key.ensures in (
      within,
      omega (arith, is, c.if-key-now.true),
      λ i lt. not-due keys c.loop-item.self.rows c.args.self.now.time inv.looks c.requires.time i (omega (arith, lt, within)) (inv.before i lt),
    )

pub loop-item-preserved : goal.loop-item-preserved
loop-item-preserved c =
    let inv = c.loop-item.invariant in
    let keys = keys_of c.args.self.now in
    let now = c.args.self.now.time in
    let item = c.loop-item.item in
    let rows = c.wait.new.rows in
    let same : boxed_slice_items c.loop-item.self.keys ≡ keys = ap boxed_slice_items inv.keys in
    let within : c.loop-item.item < length keys = omega (arith, c.loop-item-test.true, c.len.ensures, ap length same) in
    let is = key-here _ keys item c.index-key.result.now same within c.index-key.ensures in
    let late = c.if-key-now.false in
    let taken = c.take_out.ensures in
    let put = c.wait.ensures in
    record {
      keys = inv.keys;
      time = inv.time;
      looks = put-looks keys c.loop-item.self.rows c.take_out.new.self rows now item c.index-key.result.now inv.looks within is late taken.count taken.waits put.never put.waits put.rows put.count;
      within = omega (arith, c.next-item.ensures.end, put.count, taken.count, inv.looks.count);
      before = λ j lt. elim (cases_lt j (item + 1)) [
        | inl near ↦
            elim (cases_eq j item) [
              | inl e ↦
                  ap (waits_in rows (now % 64)) e
                  ∙ put-own keys c.loop-item.self.rows c.take_out.new.self rows now item c.index-key.result.now inv.looks within is late taken.count taken.waits put.never put.waits
              | inr ne ↦
                  put-others keys c.loop-item.self.rows c.take_out.new.self rows now item c.index-key.result.now inv.looks within is late taken.count taken.waits put.never put.waits
                  j (omega (arith, near, within)) (inv.before j (omega (arith, near, ne)))
            ]
        | inr far ↦ c.next-item.ensures.none j far lt
      ];
    }

pub go_on-requires-clause-turns : goal.go_on-requires-clause-turns
go_on-requires-clause-turns c =
    let inv = c.loop-item.invariant in
    same-looks (keys_of c.args.self.now) _ c.loop-item.self.rows c.rest.new.self c.args.self.now.time c.loop-item.self.time (ap boxed_slice_items inv.keys) inv.time inv.looks
    c.rest.ensures.rows c.rest.ensures.count c.rest.ensures.waits

pub returns-clause-first : goal.returns-clause-first
returns-clause-first c = λ t lt.
    let inv = c.loop-item.invariant in
    let same : boxed_slice_items c.loop-item.self.keys ≡ keys_of c.args.self.now = ap boxed_slice_items inv.keys in
    not-due (keys_of c.args.self.now) c.loop-item.self.rows c.args.self.now.time inv.looks c.requires.time t lt
    (inv.before t (omega (arith, lt, c.loop-item-test.false, c.len.ensures, ap length same)))
