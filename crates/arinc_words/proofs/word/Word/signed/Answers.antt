use Rattle.std.proofs.Common.{◌≤◌, ◌-◌, ◌*◌, ◌^◌, arith}
use Rattle.std.proofs.lemmas.Int.{ints}
use Rattle.std.proofs.lemmas.Nat.{mul-le}
use Rattle.arinc_words.proofs.Fields.{pow_small}
use Rattle.arinc_words.proofs.word.Word.signed.Goals as goal

pub returns-clause-least : goal.returns-clause-least
returns-clause-least c =
    let small : 2 ^ (29 - c.args.low) ≤ 262144 = pow_small (29 - c.args.low) (omega arith) in
    let sign : c.field-2.result * 2 ^ (29 - c.args.low) ≤ 1 * 2 ^ (29 - c.args.low) = mul-le c.field-2.result (2 ^ (29 - c.args.low)) 1 (2 ^ (29 - c.args.low)) (omega arith) (omega arith) in
    omega (arith, ints)

pub returns-clause-greatest : goal.returns-clause-greatest
returns-clause-greatest c =
    let small : 2 ^ (29 - c.args.low) ≤ 262144 = pow_small (29 - c.args.low) (omega arith) in
    let sign : c.field-2.result * 2 ^ (29 - c.args.low) ≤ 1 * 2 ^ (29 - c.args.low) = mul-le c.field-2.result (2 ^ (29 - c.args.low)) 1 (2 ^ (29 - c.args.low)) (omega arith) (omega arith) in
    omega (arith, ints)
