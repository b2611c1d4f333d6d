use Rattle.std.proofs.Common.{◌∙◌, arith, length, refl, sym, ap}
use Rattle.book_model.specs.Sealed.{the_book}
use Rattle.book_model.proofs.BookLists.{many-alerts}
use Rattle.word_out.proofs.Standing.{count_told, stands_new}
use Rattle.word_out.proofs.word_out.WordOut.new.Goals as goal

pub returns : goal.returns
returns c =
    stands_new (the_book c.args.book.now) _
    (omega (arith, c.in_ok-vec.ensures.len, c.in_ok-vec.field-0.ok.0)
    ∙ count_told (length c.alerts.result.now) c.div_ceil-groups.result (the_book c.args.book.now) (many-alerts c.args.book.now ∙ sym (ap length c.alerts.ensures.value)) c.div_ceil-groups.ensures)
    refl
