use Rattle.std.proofs.Common.{sym, subst}
use Rattle.ecam_spec.specs.Command.{no_limit}
use Rattle.ecam_spec.specs.Replay.{reply}
use Rattle.book_model.specs.Sealed.{the_book}
use Rattle.record_maker.specs.Record.{made}
use Rattle.replay_core.specs.Answers.{ByBook}
use Rattle.replay_core.specs.Calls.{shelf_call, sink_call}
use Rattle.replay_core.specs.Drill.{drill_line}
use Rattle.replay_core.specs.Outcomes.{book_ending}
use Rattle.replay_core.specs.declared.error.BookError.TheVariants.{Write}
use Rattle.replay_core.proofs.Causes.{book-told, book-untold, told-error}
use Rattle.replay_core.proofs.drill.drill.Goals as goal

pub returns-clause-drills : goal.returns-clause-drills
unfolding drill_line
returns-clause-drills g c =
    let b = the_book c.in_ok-loaded.loaded.book in
    book-told (shelf_call g.F.Source c.args.files.now c.load.new.files) (sink_call g.O.Sink c.args.out.now c.put_counts.new.out) c.args.book_name.now c.in_ok-loaded.ensures.opens b
    c.in_ok-loaded.ensures.readies.book (drill_line c.args.seed c.args.moments) (c.in_ok-put_counts.ensures.all (reply b (made c.args.seed c.args.moments) no_limit) c.replay_made-tally.ensures)

pub returns-in_err-put_counts-clause-drills : goal.returns-in_err-put_counts-clause-drills
unfolding drill_line
returns-in_err-put_counts-clause-drills g c =
    let b = the_book c.in_ok-loaded.loaded.book in
    let f = shelf_call g.F.Source c.args.files.now c.load.new.files in
    let out = sink_call g.O.Sink c.args.out.now c.put_counts.new.out in
    subst (ByBook f out c.args.book_name.now (drill_line c.args.seed c.args.moments)) (sym (told-error book_ending c.from_residual-in_err-put_counts.result Write c.from_residual-in_err-put_counts.ensures.1))
    (book-untold f out c.args.book_name.now c.in_ok-loaded.ensures.opens b
    c.in_ok-loaded.ensures.readies.book (drill_line c.args.seed c.args.moments) c.in_err-put_counts.ensures.cause
    (c.in_err-put_counts.ensures.prefix (reply b (made c.args.seed c.args.moments) no_limit) c.replay_made-tally.ensures))
