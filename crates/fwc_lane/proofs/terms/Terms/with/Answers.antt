use Rattle.std.proofs.Common.{◌≡◌, true, false, length, refl, sym, ap, subst, ◌∙◌, arith}
use Rattle.std.proofs.lemmas.List.{length-replicate}
use Rattle.book_model.specs.Sealed.{the_book}
use Rattle.term_eval.specs.CellState.{StandForNone}
use Rattle.term_eval.specs.Memory.{NodeMemory}
use Rattle.condition_codes.specs.IsCodes.{IsCodes}
use Rattle.fwc_lane.specs.TermsFit.{OwnsBelow}
use Rattle.fwc_lane.proofs.terms.Terms.with.Goals as goal

pub own_slots-requires : goal.own_slots-requires
own_slots-requires c = record {
  codes = (
    the_book c.args.book.now,
    subst (IsCodes (the_book c.args.book.now)) (sym c.table-2.ensures) c.requires.codes,
    c.condition_count-count.ensures.count,
    c.in_ok-cells.ensures.len ∙ c.slots.ensures.value,
  );
}

pub returns-clause-fits : goal.returns-clause-fits
returns-clause-fits c =
    let b = the_book c.args.book.now in
    let count = c.condition_count-count.ensures.count in
    record {
      codes = c.requires.codes;
      states =
          ap (λ (n : NodeMemory). length n.states) c.own_slots.ensures.nodes ∙ c.in_ok-cells.ensures.states
          ∙ c.count.ensures b (subst (IsCodes b) (sym c.table.ensures) c.requires.codes);
      wakes = ap (λ (n : NodeMemory). length n.wakes) c.own_slots.ensures.nodes ∙ c.in_ok-cells.ensures.wakes ∙ c.slots.ensures.value;
      askers = c.requires.askers;
      slots = ap length c.own_slots.ensures.slots ∙ c.in_ok-cells.ensures.len ∙ c.slots.ensures.value;
      owned = c.own_slots.ensures.many ∙ c.in_ok-cells.ensures.owners ∙ c.slots.ensures.value;
      owners =
          subst (λ n. OwnsBelow b n c.own_slots.new.cells.owners) count
          (c.own_slots.ensures.owners b (subst (IsCodes b) (sym c.table-2.ensures) c.requires.codes) count);
      visits = omega (arith, c.own_slots.ensures.visits, c.in_ok-cells.ensures.visits);
      truths = omega (arith, c.in_ok-truths.ensures.len, c.in_ok-truths.truths.ok.0, count);
      dues = ap length c.in_ok-dues.ensures ∙ length-replicate c.condition_count-count.result _ ∙ count;
      woken_room = omega (arith, c.in_ok-woken.ensures.room, count);
      stirred_room = omega (arith, c.in_ok-stirred.ensures.room, count);
      stirs = λ j on. absurd (let clash : false ≡ true = sym (c.in_ok-stirred.ensures.none j) ∙ on in cc);
      watch = (c.args.book.now, refl, c.in_ok-watch.ensures);
      line_alerts = c.in_ok-line_alerts.ensures;
    }

pub returns-clause-stands : goal.returns-clause-stands
returns-clause-stands c = subst StandForNone (sym c.own_slots.ensures.slots) c.in_ok-cells.ensures.stands
