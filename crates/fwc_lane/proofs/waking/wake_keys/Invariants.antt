use Rattle.std.proofs.Common.{◌+◌, ◌-◌, length}
use Rattle.book_model.specs.Sealed.{the_book}
use Rattle.fwc_lane.specs.TermsFit.{TermsFit}
use Rattle.fwc_lane.specs.Waking.{HasWoken, ranged, key_turned, key_read}
use Rattle.fwc_lane.proofs.waking.wake_keys.Given as goal

abbrev pub invariant-loop-number : goal.invariant-loop-number
invariant-loop-number l = record {
  fits : TermsFit (the_book l.book) l.terms;
  wakes : HasWoken (the_book l.book) (ranged (length (the_book l.book).parameters + length (the_book l.book).alerts + 1) l.number (key_turned l.fn.terms.keys l.keys)) (λ o. key_read l.keys (o - (length (the_book l.book).parameters + length (the_book l.book).alerts + 1))) l.fn.terms l.terms;
}
