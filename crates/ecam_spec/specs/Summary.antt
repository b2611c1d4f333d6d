-- What `check` writes of a book: how many alerts, parameters, memos and pages it has, and how many slots its
-- conditions have together. The line is this project's own.
use Rattle.std.specs.Prelude.{◌++◌, length, codes, decimal}
use Rattle.ecam_spec.specs.Book.{Text, Book}
use Rattle.ecam_spec.specs.BookTerms.{terms_of, slots_in}
use Rattle.ecam_spec.specs.Output.{line}

unfoldable pub summary : Book → Text
summary b =
    line (codes "OK alerts " ++ decimal (length b.alerts)
    ++ codes " params " ++ decimal (length b.parameters)
    ++ codes " memos " ++ decimal (length b.memos)
    ++ codes " pages " ++ decimal (length b.pages)
    ++ codes " slots " ++ decimal (slots_in (terms_of b)))
