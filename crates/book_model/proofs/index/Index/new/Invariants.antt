use Rattle.std.proofs.Common.{map}
use Rattle.book_model.specs.View.{parameter_of}
use Rattle.book_model.proofs.Entering.{IsEntered}
use Rattle.book_model.proofs.index.Index.new.Given as goal

abbrev pub invariant-loop-place : goal.invariant-loop-place
invariant-loop-place l = IsEntered (map parameter_of l.params) l.place l.last.items l.before.items
