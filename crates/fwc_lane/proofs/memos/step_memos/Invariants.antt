use Rattle.std.proofs.Common.{◌≡◌, ◌≤◌, ◌-◌, ℕ, Bool, List, Bor, suc, false, length}
use Rattle.ecam_spec.specs.History.{Moment}
use Rattle.ecam_spec.specs.Situation.{world}
use Rattle.book_model.specs.Sealed.{the_book}
use Rattle.book_model.specs.Conditions.{memos_from}
use Rattle.fwc_lane.specs.Conditions.{BookHalf, MemosHalf, MemosWere}
use Rattle.fwc_lane.specs.Given.{ShowsFirst}
use Rattle.fwc_lane.specs.TermsFit.{TermsFit}
use Rattle.fwc_lane.proofs.memos.step_memos.Given as goal

abbrev pub invariant-loop-memo : goal.invariant-loop-memo
invariant-loop-memo l = record {
  most : l.next ≤ length l.book.memos.items;
  fits : TermsFit (the_book l.book) l.terms;
  flags : length l.flags.items ≡ length l.fn.flags.items;
  stands : (active : Bor (List Bool)) → active.now ≡ l.active → (m : ℕ → Moment) (visits : ℕ)
      → ShowsFirst (record l.env { phase = l.phase; active = active }) (world (the_book l.book) m) l.now
      → MemosWere (the_book l.book) m l.now l.fn.flags.items
      → BookHalf (the_book l.book) m l.now (memos_from (the_book l.book)) (suc (length (the_book l.book).alerts)) visits l.fn.terms
      → MemosHalf (the_book l.book) m l.now l.next visits l.terms l.flags.items;
  kept : l.turned ≡ false → l.flags.items ≡ l.fn.flags.items;
}

abbrev pub decreases-loop-memo : goal.decreases-loop-memo
decreases-loop-memo l = length l.book.memos.items - l.next
