use Rattle.std.proofs.Common.{length, ap, ◌∙◌, arith}
use Rattle.ecam_spec.specs.BookTerms.{slots_in}
use Rattle.book_model.specs.Parts.{starts}
use Rattle.book_model.specs.View.{draft_of}
use Rattle.book_model.proofs.BookLists.{book-parameters}
use Rattle.book_model.proofs.SealedTerms.{slots-fit, draft_trees-view}
use Rattle.book_model.proofs.SealedBook.{order-book, secondaries-book, counts-book, total-book, terms-book, few-alerts, few-lines, few-parameters, sound-parameters, sealed-from}
use Rattle.book_model.proofs.book.Book.build.Goals as goal

pub order_of-requires : goal.order_of-requires
order_of-requires c = omega (arith, few-alerts c.args.draft c.requires.sound, ap length c.as_slice.ensures.value)

pub secondaries_of-requires : goal.secondaries_of-requires
secondaries_of-requires c = omega (arith, few-alerts c.args.draft c.requires.sound, ap length c.as_slice-2.ensures.value)

pub line_starts_of-requires-clause-count : goal.line_starts_of-requires-clause-count
line_starts_of-requires-clause-count c = omega (arith, few-alerts c.args.draft c.requires.sound, ap length c.as_slice-3.ensures.value)

pub line_starts_of-requires-clause-lines : goal.line_starts_of-requires-clause-lines
line_starts_of-requires-clause-lines c = rw c.as_slice-3.ensures.value (few-lines c.args.draft c.requires.sound)

pub new-requires-clause-few : goal.new-requires-clause-few
new-requires-clause-few c = rw c.as_slice-4.ensures.value (few-parameters c.args.draft c.requires.sound)

pub new-requires-clause-sound : goal.new-requires-clause-sound
new-requires-clause-sound c = rw c.as_slice-4.ensures.value (sound-parameters c.args.draft c.requires.sound)

pub place-slots-requires : goal.place-slots-requires
place-slots-requires c = rw (draft_trees-view c.args.draft) (omega (arith, slots-fit (draft_of c.args.draft) c.requires.sound))

pub invariant_of-result : goal.invariant_of-result
invariant_of-result c =
    let d = c.args.draft in
    let same = c.place-slots.ensures.same in
    record {
      sealed = sealed-from d c.place-slots.new.draft same c.requires.sound c.requires.faultless c.place-slots.ensures.placed;
      order = rw same (c.in_ok-order.ensures ∙ rw c.as_slice.ensures.value (order-book d));
      secondaries = rw same (c.in_ok-secondaries.ensures ∙ rw c.as_slice-2.ensures.value (secondaries-book d));
      line_starts = rw same (c.in_ok-line_starts.ensures.starts ∙ rw c.as_slice-3.ensures.value (ap (starts 0) (counts-book d)));
      line_count = rw same (c.in_ok-line_starts.ensures.total ∙ rw c.as_slice-3.ensures.value (total-book d));
      slots = rw same (c.place-slots.ensures.next ∙ ap slots_in (terms-book d));
      index = rw (same, book-parameters d, ← c.as_slice-4.ensures.value) c.in_ok-index.ensures;
    }

pub returns-clause-sealed : goal.returns-clause-sealed
returns-clause-sealed c =
    sealed-from c.args.draft c.place-slots.new.draft c.place-slots.ensures.same c.requires.sound c.requires.faultless c.place-slots.ensures.placed
