use Rattle.std.proofs.Common.{◌≡◌, ◌∷◌, ◌++◌, [], ◌∙◌, sym, subst}
use Rattle.ecam_spec.specs.declared.kinds.Event.TheVariants.{Tick}
use Rattle.book_model.specs.Sealed.{the_book}
use Rattle.fwc_pair.specs.PairState.{PairStands}
use Rattle.view_spec.specs.OutputWords.{words_text}
use Rattle.word_out.proofs.Standing.{stands_kept}
use Rattle.word_out.proofs.Writing.{is_the_tick, tick_joined, adds_nothing, adds_lines, adds_part}
use Rattle.word_out.proofs.word_out.WordOutView.event.Goals as goal

pub returns-then-not-is_tick-clause-stands : goal.returns-then-not-is_tick-clause-stands
returns-then-not-is_tick-clause-stands g c = λ h stood next.
    stands_kept (the_book c.args.book.now) h c.args.event.now c.args.self.now (sym c.is_tick.ensures ∙ c.if-not-is_tick.true) stood

pub returns-then-not-is_tick-clause-adds : goal.returns-then-not-is_tick-clause-adds
returns-then-not-is_tick-clause-adds g c = λ h stood next.
    adds_nothing g.O.Sink.agrees c.args.out.now (the_book c.args.book.now) h c.args.event.now (sym c.is_tick.ensures ∙ c.if-not-is_tick.true)

pub returns-clause-adds : goal.returns-clause-adds
returns-clause-adds g c = λ h stood next.
    let b = the_book c.args.book.now in
    let is : c.args.event.now ≡ Tick = is_the_tick c.args.event.now (sym c.is_tick.ensures ∙ c.if-not-is_tick.false) in
    let st = subst (λ e. PairStands b (h ++ e ∷ []) c.args.pair.now) is next.pair in
    adds_lines g.O.Sink.agrees c.args.out.now c.put_all.new.out (words_text b h) (words_text b (h ++ c.args.event.now ∷ [])) c.as_slice.result.now
    (tick_joined b h c.args.event.now c.as_slice.result.now is (c.as_slice.ensures.value ∙ c.take.ensures.lines h stood st))
    c.put_all.result c.put_all.ensures.all

pub returns-clause-part : goal.returns-clause-part
returns-clause-part g c = λ h stood next.
    let b = the_book c.args.book.now in
    let is : c.args.event.now ≡ Tick = is_the_tick c.args.event.now (sym c.is_tick.ensures ∙ c.if-not-is_tick.false) in
    let st = subst (λ e. PairStands b (h ++ e ∷ []) c.args.pair.now) is next.pair in
    adds_part g.O.Sink.agrees c.args.out.now c.put_all.new.out (words_text b h) (words_text b (h ++ c.args.event.now ∷ [])) c.as_slice.result.now
    (tick_joined b h c.args.event.now c.as_slice.result.now is (c.as_slice.ensures.value ∙ c.take.ensures.lines h stood st))
    c.put_all.result c.put_all.ensures.prefix
