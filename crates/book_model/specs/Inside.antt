-- What the parts that a book keeps beside its draft have to be.
use Rattle.std.specs.Prelude.{◌≡◌, length, map}
use Rattle.ecam_spec.specs.Screen.{order}
use Rattle.ecam_spec.specs.BookTerms.{terms_of, slots_in, lines_of}
use Rattle.book_model.specs.Parts.{starts}
use Rattle.book_model.specs.Sealed.{IsSealed, the_book}
use Rattle.book_model.specs.Listening.{IsIndex}
use Rattle.book_model.specs.declared.book.Book.TheInside.{Inside}

pub record IsBook (b : Inside) : Type 0 where
  pub sealed : IsSealed b.draft
  pub order : b.order.items ≡ order (the_book b.draft)
  pub secondaries : map (λ s. s.items) b.secondaries.items ≡ map (λ a. a.secondary) (the_book b.draft).alerts
  pub line_starts : b.line_starts.items ≡ starts 0 (map (λ a. length a.lines) (the_book b.draft).alerts)
  pub line_count : b.line_count ≡ length (lines_of (the_book b.draft).alerts)
  pub slots : b.slots ≡ slots_in (terms_of (the_book b.draft))
  pub index : IsIndex (the_book b.draft).parameters b.index
