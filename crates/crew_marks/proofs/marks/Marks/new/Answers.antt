use Rattle.std.proofs.Common.{false, length, refl, sym, ap, ◌∙◌, arith}
use Rattle.std.proofs.lemmas.List.{length-replicate}
use Rattle.book_model.specs.Sealed.{the_book}
use Rattle.book_model.proofs.BookLimits.{sizes}
use Rattle.book_model.proofs.BookLists.{many-alerts}
use Rattle.crew_marks.specs.MarkSets.{room_for}
use Rattle.crew_marks.proofs.Stepping.{blank-fits, blank-stands}
use Rattle.crew_marks.proofs.marks.Marks.new.Goals as goal

pub new-requires-2 : goal.new-requires-2
new-requires-2 c = omega (arith, ap length c.alerts-alerts.ensures.value, (sizes c.args.book.now c.sealed.ensures).alerts)

pub invariant_of-result : goal.invariant_of-result
invariant_of-result c =
    c.in_ok-new-2.ensures.size
    ∙ ap room_for
    (ap length c.alerts-alerts.ensures.value ∙ sym (many-alerts c.args.book.now)
    ∙ sym (ap length c.in_ok-new.ensures.cleared ∙ length-replicate _ false))

pub returns-clause-fits : goal.returns-clause-fits
returns-clause-fits c =
    let new = c.in_ok-new.ensures in
    blank-fits (the_book c.args.book.now) _
    (record {
      order = new.order;
      cleared = new.cleared;
      cancelled = new.cancelled;
      recalled = new.recalled;
      shown = new.shown;
      target = refl;
      first = refl;
      moments = refl;
      held_since = refl;
      quiet_press = refl;
    })

pub returns-clause-stands : goal.returns-clause-stands
returns-clause-stands c =
    let new = c.in_ok-new.ensures in
    blank-stands (the_book c.args.book.now) _
    (record {
      order = new.order;
      cleared = new.cleared;
      cancelled = new.cancelled;
      recalled = new.recalled;
      shown = new.shown;
      target = refl;
      first = refl;
      moments = refl;
      held_since = refl;
      quiet_press = refl;
    })
