use Rattle.std.proofs.Common.{◌<◌, length, get_or, refl, ap, ◌∙◌, sym, arith}
use Rattle.std.proofs.Math.Seq.{map-set_same}
use Rattle.std.proofs.lemmas.List.Concat.{flat_map_single}
use Rattle.ecam_spec.specs.TermSize.{trees, placed}
use Rattle.book_model.specs.View.{alert_of}
use Rattle.book_model.specs.Slots.{when_tree, when_place}
use Rattle.book_model.proofs.Placing.{placing-more, placing-all, written-items, placed-term, alert_of-when}
use Rattle.book_model.proofs.slots.place_alerts.Goals as goal

pub loop-alert-preserved : goal.loop-alert-preserved
loop-alert-preserved c =
    let items = c.loop-alert.alert-items in
    let i = c.loop-alert.alert-index in
    let d = c.alert-item.result in
    let x = get_or items i d in
    let term = c.place_term-next.new.term in
    let within : i < length items = omega arith in
    record {
      same = map-set_same alert_of items i (record x { when = term }) d (alert_of-when x term c.place_term-next.ensures.cond) ∙ c.loop-alert.invariant.same;
      lines = map-set_same (λ a. a.lines) items i (record x { when = term }) d refl ∙ c.loop-alert.invariant.lines;
      placing = placing-more c.loop-alert.invariant.placing d (record x { when = term }) _ within
          (placed-term term x.when _ c.place_term-next.ensures.cond c.place_term-next.ensures.at) (omega (arith, c.place_term-next.ensures.next));
    }

pub returns-clause-placed : goal.returns-clause-placed
returns-clause-placed c =
    let items = c.loop-alert.alert-items in
    let olds = c.args.alerts.now.items in
    rw (written-items c.args.alerts.now.len items olds (omega arith) (omega arith)) (
    sym (flat_map_single when_place items)
    ∙ placing-all c.loop-alert.invariant.placing (omega arith)
    ∙ ap (λ cs. placed c.args.at (trees cs)) (flat_map_single when_tree olds))
