use Rattle.std.proofs.Common.{◌≡◌, ◌<◌, ◌≤◌, ◌-◌, ℕ, Bool, List, Bor, suc, true, false, length}
use Rattle.ecam_spec.specs.History.{Moment}
use Rattle.ecam_spec.specs.Situation.{world}
use Rattle.book_model.specs.Sealed.{the_book}
use Rattle.book_model.specs.Conditions.{lines_from, memos_from}
use Rattle.wakes.specs.Marks.{is_marked}
use Rattle.fwc_lane.specs.Given.{ShowsFirst}
use Rattle.fwc_lane.specs.Conditions.{BookHalf, LinesHalf, LinesWere}
use Rattle.fwc_lane.specs.LineFlags.{KeepsShown}
use Rattle.fwc_lane.specs.TermsFit.{TermsFit}
use Rattle.fwc_lane.proofs.procedures.step_lines.Given as goal

abbrev pub invariant-loop-number : goal.invariant-loop-number
invariant-loop-number l = record {
  from : lines_from (the_book l.book) ≤ l.number;
  most : l.number ≤ memos_from (the_book l.book);
  marked : l.number < memos_from (the_book l.book) → is_marked l.terms.stirred l.number ≡ true;
  fits : TermsFit (the_book l.book) l.terms;
  flags : length l.flags.items ≡ length l.fn.flags.items;
  stands : (active : Bor (List Bool)) → active.now ≡ l.active → (m : ℕ → Moment) (visits : ℕ)
      → ShowsFirst (record l.env { phase = l.phase; active = active }) (world (the_book l.book) m) l.now
      → LinesWere (the_book l.book) m l.now l.fn.flags.items
      → BookHalf (the_book l.book) m l.now (lines_from (the_book l.book)) (suc (length (the_book l.book).alerts)) visits l.fn.terms
      → LinesHalf (the_book l.book) m l.now l.number visits l.terms l.flags.items;
  kept : l.turned ≡ false → KeepsShown (the_book l.book) l.shown l.fn.flags.items l.flags.items;
}

abbrev pub decreases-loop-number : goal.decreases-loop-number
decreases-loop-number l = memos_from (the_book l.book) - l.number
