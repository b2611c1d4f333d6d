use Rattle.replay_core.specs.Calls.{shelf_call}
use Rattle.replay_core.proofs.Loads.{file-book}
use Rattle.replay_core.proofs.load.load_book.Goals as goal

pub returns-in-Ok-clause-loads : goal.returns-in-Ok-clause-loads
returns-in-Ok-clause-loads g c =
    file-book (shelf_call g.F.Source c.args.files.now c.load_file.new.files) c.args.name.now c.in-Ok.file c.in-Ok.ensures.reads
