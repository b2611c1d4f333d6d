use Rattle.std.proofs.Common.{◌≡◌, ℕ, Bool, List, ◌≤◌, ◌∙◌, ◌*◌, length, take, drop, ap, refl, arith}
use Rattle.std.proofs.lemmas.List.{length-take}
use Rattle.view_spec.specs.OutputWords.{number_of, group_data}
use Rattle.word_out.proofs.GroupBits.{as_bit, with_bit, with_bit-small, with_bit-fits, all_bits, all_bits-small}
use Rattle.word_out.proofs.data.group_data.Goals as goal

-- a group has 16 alerts at most
at_most : (alerts shown : List Bool) (group : ℕ) → alerts ≡ take 16 (drop (16 * group) shown) → length alerts ≤ 16
at_most alerts shown group is = omega (arith, ap length is, length-take 16 (drop (16 * group) shown))

pub overflow_add-data : goal.overflow_add-data
overflow_add-data c =
    let fits = with_bit-fits c.alerts_of-alerts.result.now c.loop-i.i c.loop-i-test.true (at_most c.alerts_of-alerts.result.now c.args.shown.now c.args.group c.alerts_of-alerts.ensures) c.from.result c.loop-i.data (c.from.ensures ∙ as_bit _) c.loop-i.invariant.number in
    omega (arith, fits)

pub loop-i-init : goal.loop-i-init
unfolding number_of
loop-i-init c = record { number = refl; small = omega arith }

pub loop-i-preserved : goal.loop-i-preserved
loop-i-preserved c = record {
  number = with_bit c.alerts_of-alerts.result.now c.loop-i.i c.loop-i-test.true (at_most c.alerts_of-alerts.result.now c.args.shown.now c.args.group c.alerts_of-alerts.ensures) c.from.result c.loop-i.data (c.from.ensures ∙ as_bit _) c.loop-i.invariant.number;
  small = with_bit-small c.alerts_of-alerts.result.now c.loop-i.i c.loop-i-test.true (at_most c.alerts_of-alerts.result.now c.args.shown.now c.args.group c.alerts_of-alerts.ensures) c.from.result c.loop-i.data (c.from.ensures ∙ as_bit _) c.loop-i.invariant.number;
}

pub returns-clause-data : goal.returns-clause-data
unfolding group_data
returns-clause-data c =
    all_bits c.alerts_of-alerts.result.now c.loop-i.i c.loop-i.data c.loop-i-test.false c.loop-i.invariant.number ∙ ap number_of c.alerts_of-alerts.ensures

pub returns-clause-small : goal.returns-clause-small
returns-clause-small c =
    all_bits-small c.alerts_of-alerts.result.now c.loop-i.data (at_most c.alerts_of-alerts.result.now c.args.shown.now c.args.group c.alerts_of-alerts.ensures) (all_bits c.alerts_of-alerts.result.now c.loop-i.i c.loop-i.data c.loop-i-test.false c.loop-i.invariant.number)
