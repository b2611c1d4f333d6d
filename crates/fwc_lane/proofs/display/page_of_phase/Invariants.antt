use Rattle.std.proofs.Common.{◌≡◌, map, drop}
use Rattle.std.specs.Prelude.{find}
use Rattle.ecam_spec.specs.Book as plain
use Rattle.ecam_spec.specs.Term.{in_set}
use Rattle.book_model.specs.View.{page_of}
use Rattle.fwc_lane.proofs.display.page_of_phase.Given as goal

abbrev pub invariant-loop-i : goal.invariant-loop-i
invariant-loop-i l = record {
  rest : find (λ (p : plain.Page). in_set p.phases l.phase.number) (drop l.i (map page_of l.pages)) ≡ find (λ (p : plain.Page). in_set p.phases l.phase.number) (map page_of l.pages);
}
