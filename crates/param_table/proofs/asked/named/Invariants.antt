use Rattle.std.proofs.Common.{◌≡◌, ◌<◌, ℕ, false, length, get_or}
use Rattle.book_model.specs.Sealed.{the_book}
use Rattle.param_table.specs.Asked.{is_named}
use Rattle.param_table.proofs.asked.named.Given as goal

abbrev pub invariant-loop-param : goal.invariant-loop-param
invariant-loop-param l = record {
  count : length l.named.items ≡ l.param;
  named : (p : ℕ) → p < l.param → get_or l.named.items p false ≡ is_named (the_book l.book) p;
}
