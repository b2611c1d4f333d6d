use Rattle.book_model.specs.Sealed.{the_book}
use Rattle.replay_core.proofs.Drilled.{tallied}
use Rattle.replay_core.proofs.drill.replay_made.Goals as goal

pub returns : goal.returns
returns c =
    tallied (the_book c.args.loaded.book) c.run.new.pair c.args.seed c.args.moments c.requires.moments c.new-tally.result c.run.new.out c.new-tally.ensures.none
    _ _ c.new-maker.ensures.left c.run.result c.run.ensures.runs c.run.ensures.read c.run.ensures.write
