use Rattle.std.proofs.Common.{◌≤◌, ◌%◌, ◌^◌, ap, ◌∙◌, arith}
use Rattle.std.specs.Prelude.{count_ones}
use Rattle.std.proofs.lemmas.Nat.{ones-le, mod_below, pow_pos}
use Rattle.wakes.proofs.Counting.{ones-on}
use Rattle.wakes.proofs.marked.count_in.Goals as goal

pub overflow_add-count : goal.overflow_add-count
overflow_add-count c =
    let next = c.loop-next.next in
    let part = c.min-part.result in
    let few : c.ones_of-count.result ≤ part = omega (arith, c.ones_of-count.ensures, ones-le part _ (mod_below c.bits_from.result (2 ^ part) (pow_pos part))) in
    omega (arith, few, c.loop-next.invariant.few, c.loop-next-test.true, c.min-part.ensures, c.ranges.end.fits)

pub loop-next-preserved : goal.loop-next-preserved
loop-next-preserved c =
    let words = c.args.words.now in
    let next = c.loop-next.next in
    let part = c.min-part.result in
    let few : c.ones_of-count.result ≤ part = omega (arith, c.ones_of-count.ensures, ones-le part _ (mod_below c.bits_from.result (2 ^ part) (pow_pos part))) in
    let more = ones-on words next part (omega (arith, c.min-part.ensures)) in
    let ones = c.ones_of-count.ensures ∙ ap (λ x. count_ones (x % 2 ^ part)) c.bits_from.ensures.bits in
    record {
      most = omega (arith, c.min-part.ensures, c.loop-next-test.true);
      few = omega (arith, few, c.loop-next.invariant.few);
      counted = omega (arith, c.loop-next.invariant.counted, more, ones);
    }
