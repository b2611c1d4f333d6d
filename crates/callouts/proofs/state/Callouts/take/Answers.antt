use Rattle.std.proofs.Common.{◌≡◌, ◌+◌, true, sym, ◌∙◌, ap, [], ◌∷◌, ◌++◌}
use Rattle.ecam_spec.specs.declared.kinds.Event.TheVariants.{Tick}
use Rattle.ecam_spec.specs.Replay.{is_tick}
use Rattle.view_spec.specs.Callouts.{called}
use Rattle.book_model.specs.Sealed.{the_book}
use Rattle.callouts.proofs.Eras.{stand-quiet}
use Rattle.callouts.proofs.Taking.{pair-ticks, stand-before, stand-ended, text-tick, text-quiet}
use Rattle.callouts.proofs.state.Callouts.take.Goals as goal

pub returns-then-is_tick-clause-stands : goal.returns-then-is_tick-clause-stands
returns-then-is_tick-clause-stands c h stand next =
    let b = the_book c.args.book.now in
    let is : is_tick c.args.event.now ≡ true = sym c.is_tick.ensures ∙ c.if-is_tick.true in
    stand-ended b h c.args.event.now is c.tick.new.self c.args.self.now.ticks (c.tick.ensures.ticks ∙ ap (λ n. n + 1) c.begin.ensures.ticks) stand.ticks
    (c.tick.ensures.stands h (pair-ticks b h c.args.event.now is c.args.pair.now next.pair)
    (stand-before b h c.args.event.now is c.begin.new.self (λ up. c.begin.ensures.stands b h c.args.event.now next.fresh_is up stand)))

pub returns-then-is_tick-clause-text : goal.returns-then-is_tick-clause-text
returns-then-is_tick-clause-text c h stand next =
    let b = the_book c.args.book.now in
    let is : is_tick c.args.event.now ≡ true = sym c.is_tick.ensures ∙ c.if-is_tick.true in
    let calls = c.tick.ensures.call h (pair-ticks b h c.args.event.now is c.args.pair.now next.pair)
    (stand-before b h c.args.event.now is c.begin.new.self (λ up. c.begin.ensures.stands b h c.args.event.now next.fresh_is up stand)) in
    text-tick b h c.args.event.now is c.args.self.now.param c.args.self.now.ticks c.tick.result stand.ticks
    (calls ∙ ap (λ p. called b p (h ++ Tick ∷ [])) c.begin.ensures.param)

pub returns-else-is_tick-clause-stands : goal.returns-else-is_tick-clause-stands
returns-else-is_tick-clause-stands c h stand next =
    let b = the_book c.args.book.now in
    stand-quiet h c.args.event.now b c.begin.new.self (sym c.is_tick.ensures ∙ c.if-is_tick.false) (c.begin.ensures.ticks ∙ stand.ticks)
    (λ up. c.begin.ensures.stands b h c.args.event.now next.fresh_is up stand)

pub returns-else-is_tick-clause-text : goal.returns-else-is_tick-clause-text
returns-else-is_tick-clause-text c h stand next =
    let b = the_book c.args.book.now in
    text-quiet b c.args.self.now.param h c.args.event.now (sym c.is_tick.ensures ∙ c.if-is_tick.false)
