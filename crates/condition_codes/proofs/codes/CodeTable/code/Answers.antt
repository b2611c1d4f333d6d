use Rattle.std.proofs.Common.{◌≡◌, suc, ◌<◌, length, slice_index, sym, ◌∙◌, arith}
use Rattle.std.proofs.lemmas.Option.{slice_get_within}
use Rattle.book_model.specs.Conditions.{places}
use Rattle.condition_codes.specs.IsCodes.{node_starts}
use Rattle.condition_codes.proofs.codes.CodeTable.code.Goals as goal

pub returns : goal.returns
returns c b is p here =
    let n = c.args.number in
    let starts = node_starts c.args.self.now.starts.items.items in
    let inside : n < length (places b) = slice_get_within (places b) n p here in
    let from : c.start.result ≡ slice_index starts n = c.start.ensures b is inside ∙ sym (is.codes.nodes n (omega (arith, inside))) in
    let to : c.start_behind.result ≡ slice_index starts (suc n) = c.start_behind.ensures b is inside ∙ sym (is.codes.nodes (suc n) inside) in
    rw (from, to, c.deref.ensures.value) (is.codes.codes n p here)
