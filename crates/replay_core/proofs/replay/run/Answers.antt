use Rattle.book_model.specs.Sealed.{the_book}
use Rattle.replay_core.proofs.Unchanged.{unaffected}
use Rattle.replay_core.proofs.replay.run.Goals as goal

pub returns-clause-unaffected : goal.returns-clause-unaffected
returns-clause-unaffected g c =
    unaffected (the_book c.args.book.now) g.O.Sink.agrees c.args.out.now c.run_view.new.out c.run_view.new.pair c.args.limit
    (g.S.Source.left c.args.source.now) (g.S.Source.left c.run_view.new.source) c.run_view.result c.run_view.ensures.shows
