use Rattle.std.proofs.Common.{◌≡◌, ◌≤◌, ◌*◌, ◌%◌, ◌^◌, ap, ◌∙◌, refl, pos, ◌*ℤ◌, w64, to_z, of_z, arith}
use Rattle.std.proofs.lemmas.Nat.{one_shl}
use Rattle.std.proofs.lemmas.Int.{to_z-of_z, to_z_pos}
use Rattle.std.specs.Int.{int_div_euclid}
use Rattle.arinc_words.proofs.Fields.{pow_small}
use Rattle.arinc_words.proofs.Scaled.{scaled_low, scaled_high, product_fits}
use Rattle.arinc_words.proofs.word.scaled.Goals as goal
use Rattle.arinc_words.proofs.word.scaled.Goals.{After-from, After-div_euclid}

-- the arguments as the code converts them
steps_are : (c : After-from) → to_z w64 (of_z w64 c.args.steps) ≡ c.args.steps
steps_are c = to_z-of_z w64 c.args.steps c.ranges.steps

range_is : (c : After-from) → to_z w64 (of_z w64 c.from.result) ≡ pos c.args.range
range_is c = to_z-of_z w64 c.from.result (record { sfits = c.from.type_inv }) ∙ c.from.ensures

pub overflow_mul-steps : goal.overflow_mul-steps
overflow_mul-steps c =
    rw (steps_are c, range_is c) (product_fits c.args.steps c.args.range c.args.bits c.requires.least c.requires.greatest c.requires.range c.requires.bits)

quotient : (c : After-div_euclid) → to_z w64 (of_z w64 c.div_euclid.result) ≡ int_div_euclid (c.args.steps *ℤ pos c.args.range) (pos (2 ^ c.args.bits))
quotient c =
    let small : 2 ^ c.args.bits ≤ 262144 = pow_small c.args.bits (omega arith) in
    let steps : to_z w64 (of_z w64 c.args.steps) ≡ c.args.steps = to_z-of_z w64 c.args.steps c.ranges.steps in
    let range : to_z w64 (of_z w64 c.from.result) ≡ pos c.args.range = to_z-of_z w64 c.from.result (record { sfits = c.from.type_inv }) ∙ c.from.ensures in
    let product : to_z w64 (of_z w64 (c.args.steps *ℤ pos c.args.range)) ≡ c.args.steps *ℤ pos c.args.range =
    to_z-of_z w64 (c.args.steps *ℤ pos c.args.range) (product_fits c.args.steps c.args.range c.args.bits c.requires.least c.requires.greatest c.requires.range c.requires.bits) in
    let divisor : to_z w64 (1 * 2 ^ c.args.bits % 2 ^ 64) ≡ pos (2 ^ c.args.bits) = ap (to_z w64) (one_shl c.args.bits 64 (omega arith)) ∙ to_z_pos w64 (2 ^ c.args.bits) (omega arith) in
    to_z-of_z w64 c.div_euclid.result (record { sfits = c.div_euclid.type_inv }) ∙ c.div_euclid.ensures ∙ rw (steps, range, product, divisor) refl

pub returns-clause-value : goal.returns-clause-value
returns-clause-value c = quotient c

pub returns-clause-least : goal.returns-clause-least
returns-clause-least c = rw (quotient c) (scaled_low c.args.steps c.args.range (2 ^ c.args.bits) c.requires.least)

pub returns-clause-greatest : goal.returns-clause-greatest
returns-clause-greatest c = rw (quotient c) (scaled_high c.args.steps c.args.range (2 ^ c.args.bits) c.requires.greatest)
