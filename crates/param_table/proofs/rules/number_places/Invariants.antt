use Rattle.std.proofs.Common.{◌*◌, ◌≡◌, length}
use Rattle.book_model.specs.Sealed.{the_book}
use Rattle.param_table.specs.Rules.{AreNumbered}
use Rattle.param_table.proofs.rules.number_places.Given as goal

abbrev pub invariant-loop-place : goal.invariant-loop-place
invariant-loop-place l = record {
  numbered : AreNumbered (the_book l.book).parameters l.place l.numbered;
  end : l.place-end ≡ 3 * length (the_book l.book).parameters;
}
