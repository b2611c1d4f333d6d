use Rattle.std.proofs.Common.{◌<◌, length, ◌∙◌, sym, arith}
use Rattle.book_tables.proofs.NamePlaces.{count_of-more}
use Rattle.book_tables.proofs.places.counts_of.Goals as goal

pub loop-name-preserved : goal.loop-name-preserved
loop-name-preserved c q =
    let names = c.args.names.now in
    let within : c.loop-name.name-index < length names = omega arith in
    let text = c.as_bytes.ensures.value in
    let step = rw text at (c.in_ok-count_one.ensures q) in
    step ∙ (rw (c.loop-name.invariant q) (sym (count_of-more names c.loop-name.name-index _ within q)))
