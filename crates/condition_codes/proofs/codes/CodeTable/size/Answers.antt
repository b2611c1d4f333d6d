use Rattle.std.proofs.Common.{◌<◌, length, arith}
use Rattle.std.proofs.lemmas.Option.{slice_get_within}
use Rattle.book_model.specs.Conditions.{places}
use Rattle.condition_codes.proofs.Places.{nodes-next}
use Rattle.condition_codes.proofs.codes.CodeTable.size.Goals as goal

pub returns : goal.returns
returns c b is p here =
    let inside : c.args.number < length (places b) = slice_get_within (places b) c.args.number p here in
    omega (arith, c.start_behind.ensures b is inside, c.start.ensures b is inside, nodes-next (places b) c.args.number p here)
