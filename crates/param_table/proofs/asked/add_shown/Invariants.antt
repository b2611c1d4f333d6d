use Rattle.std.proofs.Common.{◌≡◌, ◌||◌, ℕ, false, length, map, get_or, take}
use Rattle.std.specs.List.{list_any}
use Rattle.book_model.specs.View.{row_of}
use Rattle.param_table.specs.Asked.{is_shown_in}
use Rattle.param_table.proofs.asked.add_shown.Given as goal

abbrev pub invariant-loop-row : goal.invariant-loop-row
invariant-loop-row l = record {
  count : length l.asked ≡ length l.initial.asked;
  asked : (p : ℕ) → get_or l.asked p false ≡ (get_or l.initial.asked p false || list_any (is_shown_in p) (map row_of (take l.row-index l.row-items)));
}
