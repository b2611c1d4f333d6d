use Rattle.std.proofs.Common.{◌≡◌, Err, ap, ◌∙◌}
use Rattle.book_model.specs.View.{draft_of}
use Rattle.book_model.specs.declared.error.LoadError.TheVariants.{Fault}
use Rattle.replay_core.proofs.BookFacts.{read-refused, sealed-book, sealed-fault}
use Rattle.replay_core.proofs.load.book_of.Goals as goal

pub returns-in-Ok-clause-book : goal.returns-in-Ok-clause-book
returns-in-Ok-clause-book c =
    sealed-book c.args.bytes.now (draft_of c.in-Ok.draft) c.in-Ok.ensures.draft c.seal.result c.seal.ensures.book c.seal.ensures.faultless

pub returns-in-Ok-clause-fault : goal.returns-in-Ok-clause-fault
returns-in-Ok-clause-fault c = sealed-fault c.args.bytes.now (draft_of c.in-Ok.draft) c.in-Ok.ensures.draft c.seal.result c.seal.ensures.fault

pub returns-in-Err-clause-fault : goal.returns-in-Err-clause-fault
returns-in-Err-clause-fault c = λ f told.
    read-refused c.args.bytes.now f (c.read_book.ensures.fault f (c.in-Err.is ∙ ap Err (let same : c.in-Err.error ≡ Fault f = cc in same)))
