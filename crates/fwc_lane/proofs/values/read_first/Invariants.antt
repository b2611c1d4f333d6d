use Rattle.std.proofs.Common.{◌≡◌, ℕ, ◌<◌, List, length, get_or, None}
use Rattle.ecam_spec.specs.Value.{BusWord, value}
use Rattle.ecam_spec.specs.Situation.{parameter_at}
use Rattle.book_model.specs.Sealed.{the_book}
use Rattle.param_table.specs.TableState.{ParamsStand}
use Rattle.system_display.specs.Pages.{AreShort}
use Rattle.fwc_lane.proofs.values.read_first.Given as goal

abbrev pub invariant-loop-param : goal.invariant-loop-param
invariant-loop-param l = record {
  many : length l.values.items ≡ length l.fn.values.items;
  short : AreShort l.values.items;
  read : (words : ℕ → List BusWord) (k : ℕ) → ParamsStand (the_book l.book) words k l.params
      → (p : ℕ) → p < l.param → get_or l.values.items p None ≡ value (parameter_at (the_book l.book) p) words k;
}
