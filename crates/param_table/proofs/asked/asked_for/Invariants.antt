use Rattle.std.proofs.Common.{◌≡◌, ◌<◌, ◌||◌, ℕ, false, length, map, get_or, take}
use Rattle.std.specs.List.{list_any}
use Rattle.book_model.specs.View.{page_of}
use Rattle.book_model.specs.Sealed.{the_book}
use Rattle.param_table.specs.Asked.{is_named, shows}
use Rattle.param_table.proofs.asked.asked_for.Given as goal

abbrev pub invariant-loop-page : goal.invariant-loop-page
invariant-loop-page l = record {
  count : length l.asked.items ≡ length (the_book l.book).parameters;
  asked : (p : ℕ) → p < length (the_book l.book).parameters
      → get_or l.asked.items p false ≡ (is_named (the_book l.book) p || list_any (shows p) (map page_of (take l.page-index l.page-items)));
}
