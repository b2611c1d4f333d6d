use Rattle.std.proofs.Common.{[], sym, ◌∙◌, subst, ap}
use Rattle.std.specs.Prelude.{OnOk, OnErr}
use Rattle.ecam_io.specs.Outside.{Appended, AppendedPrefix}
use Rattle.ecam_spec.specs.Output.{block}
use Rattle.ecam_kinds.specs.Shown.{picture_of}
use Rattle.fwc_lane.specs.ChangedRows.{NoneChanged}
use Rattle.replay_core.specs.Flagged.{NamesRows}
use Rattle.book_model.specs.Sealed.{the_book}
use Rattle.replay_core.proofs.Feeding.{quiet-adds, quiet-count, tick-count, few-ticks, tick-block, adds-none, adds-block, adds-part, on-ok}
use Rattle.replay_core.proofs.changes.ChangesView.event.Goals as goal

pub returns-then-not-is_tick-clause-stands : goal.returns-then-not-is_tick-clause-stands
returns-then-not-is_tick-clause-stands g c = λ h stood next.
    quiet-count (the_book c.args._book.now) h c.args.event.now c.args._fresh c.args.pair.now next g.O.Sink.agrees
    (sym c.is_tick.ensures ∙ c.if-not-is_tick.true) c.args.self.now.ticks stood

pub returns-then-not-is_tick-clause-adds : goal.returns-then-not-is_tick-clause-adds
returns-then-not-is_tick-clause-adds g c = λ h stood next.
    quiet-adds (the_book c.args._book.now) h c.args.event.now c.args._fresh c.args.pair.now next g.O.Sink.agrees
    (sym c.is_tick.ensures ∙ c.if-not-is_tick.true) c.args.out.now

pub number-tick-requires : goal.number-tick-requires
number-tick-requires g c =
    let (h, seen) = c.requires.next in
    few-ticks (the_book c.args._book.now) h c.args.event.now c.args._fresh c.args.pair.now seen.1 g.O.Sink.agrees (sym c.is_tick.ensures ∙ c.if-not-is_tick.false) c.args.self.now.ticks seen.0

pub writes_nothing-requires : goal.writes_nothing-requires
writes_nothing-requires g c = λ so.
    let (h, seen) = c.requires.next in
    subst NoneChanged (sym c.changed-changed.ensures.value) (c.still.ensures.tells (the_book c.args._book.now) seen.1.pair.fits so)

pub returns-then-writes_nothing-clause-stands : goal.returns-then-writes_nothing-clause-stands
returns-then-writes_nothing-clause-stands g c = λ h stood next.
    c.number-tick.ensures.counted ∙ tick-count (the_book c.args._book.now) h c.args.event.now c.args._fresh c.args.pair.now next g.O.Sink.agrees (sym c.is_tick.ensures ∙ c.if-not-is_tick.false) c.args.self.now.ticks stood

pub returns-then-writes_nothing-clause-adds : goal.returns-then-writes_nothing-clause-adds
returns-then-writes_nothing-clause-adds g c = λ h stood next.
    adds-none (the_book c.args._book.now) h c.args.event.now c.args._fresh c.args.pair.now next g.O.Sink.agrees c.args.out.now
    (tick-block (the_book c.args._book.now) h c.args.event.now c.args._fresh c.args.pair.now next g.O.Sink.agrees (sym c.is_tick.ensures ∙ c.if-not-is_tick.false) c.args.self.now.ticks stood [] c.changed-changed.result.now c.changed-changed.ensures.value
    (λ old names. sym (c.writes_nothing.ensures c.if-writes_nothing.true c.args.self.now.ticks old (picture_of c.args.pair.now.face) names)))

pub returns-clause-stands : goal.returns-clause-stands
returns-clause-stands g c = λ h stood next.
    on-ok c.put_all.result _
    (c.number-tick.ensures.counted ∙ tick-count (the_book c.args._book.now) h c.args.event.now c.args._fresh c.args.pair.now next g.O.Sink.agrees (sym c.is_tick.ensures ∙ c.if-not-is_tick.false) c.args.self.now.ticks stood)

pub returns-clause-adds : goal.returns-clause-adds
returns-clause-adds g c = λ h stood next.
    adds-block (the_book c.args._book.now) h c.args.event.now c.args._fresh c.args.pair.now next g.O.Sink.agrees c.args.out.now c.put_all.new.out c.renew.new.block.items
    (tick-block (the_book c.args._book.now) h c.args.event.now c.args._fresh c.args.pair.now next g.O.Sink.agrees (sym c.is_tick.ensures ∙ c.if-not-is_tick.false) c.args.self.now.ticks stood c.renew.new.block.items c.changed-changed.result.now c.changed-changed.ensures.value
    (λ old names. c.renew.ensures old (subst (λ q. NamesRows old (picture_of q) c.changed-changed.result.now) (sym c.picture.ensures.value) names)
    ∙ ap (λ n. block n old (picture_of c.picture.result.now)) c.number-tick.ensures.number
    ∙ ap (λ q. block c.args.self.now.ticks old (picture_of q)) c.picture.ensures.value))
    c.put_all.result (subst (λ text. OnOk c.put_all.result (Appended g.O.Sink.agrees c.args.out.now c.put_all.new.out text)) c.as_slice.ensures.value c.put_all.ensures.all)

pub returns-clause-part : goal.returns-clause-part
returns-clause-part g c = λ h stood next.
    adds-part (the_book c.args._book.now) h c.args.event.now c.args._fresh c.args.pair.now next g.O.Sink.agrees c.args.out.now c.put_all.new.out c.renew.new.block.items
    (tick-block (the_book c.args._book.now) h c.args.event.now c.args._fresh c.args.pair.now next g.O.Sink.agrees (sym c.is_tick.ensures ∙ c.if-not-is_tick.false) c.args.self.now.ticks stood c.renew.new.block.items c.changed-changed.result.now c.changed-changed.ensures.value
    (λ old names. c.renew.ensures old (subst (λ q. NamesRows old (picture_of q) c.changed-changed.result.now) (sym c.picture.ensures.value) names)
    ∙ ap (λ n. block n old (picture_of c.picture.result.now)) c.number-tick.ensures.number
    ∙ ap (λ q. block c.args.self.now.ticks old (picture_of q)) c.picture.ensures.value))
    c.put_all.result (subst (λ text. OnErr c.put_all.result (AppendedPrefix g.O.Sink.agrees c.args.out.now c.put_all.new.out text)) c.as_slice.ensures.value c.put_all.ensures.prefix)
