use Rattle.std.proofs.Common.{◌≡◌, ◌+◌, ◌-◌, ◌*◌, ◌/◌, ◌%◌, ◌^◌, length, replicate, refl, ap, ◌∙◌, rules, arith}
use Rattle.std.proofs.lemmas.List.{length-replicate}
use Rattle.std.specs.Box.{boxed_slice_items}
use Rattle.wakes.proofs.Places.{grouped-by, end-below, empty-rows}
use Rattle.wakes.proofs.rows.Rows.new.Goals as goal

pub returns-clause-rows : goal.returns-clause-rows
returns-clause-rows c =
    let count = c.args.count in
    let shift = c.ilog2-shift.result - 5 in
    let size = (count / 2 ^ shift + 1) * 2 ^ shift in
    let grouped = grouped-by count c.max.result c.ilog2-shift.result c.max.ensures c.ilog2-shift.ensures.power_le c.ilog2-shift.ensures.next_power_gt in
    let whole : size % 2 ^ 64 ≡ size = omega (arith, end-below count shift c.requires grouped (count / 2 ^ shift) (omega arith)) in
    let words : boxed_slice_items c.into_boxed_slice.result ≡ replicate (size % 2 ^ 64) 0 = c.into_boxed_slice.ensures.items ∙ c.in_ok-vec.ensures.items_if_clones_equal (λ y same. search rules) in
    empty-rows (boxed_slice_items c.into_boxed_slice.result) (replicate 64 0) count shift c.requires grouped (ap length words ∙ length-replicate (size % 2 ^ 64) 0 ∙ whole) (size % 2 ^ 64) words 64 refl
