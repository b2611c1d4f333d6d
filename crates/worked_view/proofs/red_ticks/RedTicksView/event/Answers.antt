use Rattle.std.proofs.Common.{sym, ◌∙◌, ap}
use Rattle.std.specs.List.{list_any}
use Rattle.ecam_kinds.specs.declared.picture.Row.{Row}
use Rattle.book_model.specs.Sealed.{the_book}
use Rattle.worked_view.specs.RedTicks.{is_red}
use Rattle.worked_view.proofs.RedLaws.{red_room, red_stays, red_counted}
use Rattle.worked_view.proofs.red_ticks.RedTicksView.event.Goals as goal

pub count-requires : goal.count-requires
count-requires g c =
    red_room (the_book c.args._book.now) c.requires.next.0 c.args.event.now c.args._fresh c.args.pair.now c.args.self.now.count
    c.requires.next.1.0
    c.requires.next.1.1

pub returns-then-is_tick-clause-stands : goal.returns-then-is_tick-clause-stands
returns-then-is_tick-clause-stands g c = λ h stood next.
    c.count.ensures
    ∙ red_counted (the_book c.args._book.now) h c.args.event.now c.args._fresh c.args.pair.now c.args.self.now.count stood next
    c.has_red.result
    (c.has_red.ensures ∙ ap (λ p. list_any (λ (r : Row). is_red r.colour) p.rows) c.picture.ensures.value)
    (sym c.is_tick.ensures ∙ c.if-is_tick.true)

pub returns-else-is_tick-clause-stands : goal.returns-else-is_tick-clause-stands
returns-else-is_tick-clause-stands g c = λ h stood next.
    red_stays (the_book c.args._book.now) h c.args.event.now c.args._fresh c.args.pair.now c.args.self.now.count stood next
    (sym c.is_tick.ensures ∙ c.if-is_tick.false)
