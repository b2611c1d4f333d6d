use Rattle.std.proofs.Common.{◌<◌, length, ◌∙◌, sym, arith}
use Rattle.book_tables.proofs.NamePlaces.{place_of-more}
use Rattle.book_tables.proofs.places.places_of.Goals as goal

pub loop-i-preserved : goal.loop-i-preserved
loop-i-preserved c q =
    let names = c.args.names.now in
    let within : c.loop-i.i < length names = omega arith in
    let text = c.as_bytes.ensures.value in
    let step = rw text at (c.in_ok-note_place.ensures q) in
    step ∙ (rw (c.loop-i.invariant q) (sym (place_of-more names c.loop-i.i _ within q)))
