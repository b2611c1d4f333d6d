use Rattle.std.proofs.Common.{◌<◌, length, ◌∙◌, sym, arith}
use Rattle.book_model.proofs.NamesNoted.{place_of-more}
use Rattle.book_model.proofs.names.alert_places.Goals as goal

pub loop-i-preserved : goal.loop-i-preserved
loop-i-preserved c q =
    let alerts = c.args.alerts.now in
    let within : c.loop-i.i < length alerts = omega arith in
    let text = c.as_bytes.ensures.value ∙ c.as_str.ensures.value in
    let step = rw text at (c.in_ok-note_place.ensures q) in
    step ∙ (rw (c.loop-i.invariant q) (sym (place_of-more alerts c.loop-i.i c.index-alerts-i.result within c.index-alerts-i.is q)))
