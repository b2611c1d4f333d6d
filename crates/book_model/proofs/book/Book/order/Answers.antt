use Rattle.std.proofs.Common.{◌≡◌, length, ap, ◌∙◌}
use Rattle.ecam_spec.specs.Screen.{order}
use Rattle.ecam_spec.proofs.OrderLaws.{order-below, length-order}
use Rattle.book_model.specs.Sealed.{the_book}
use Rattle.book_model.specs.declared.draft.Draft.{Draft}
use Rattle.book_model.proofs.BookLists.{many-alerts}
use Rattle.book_model.proofs.book.Book.order.Goals as goal
use Rattle.book_model.proofs.book.Book.order.Goals.{After-as_slice}

told : (c : After-as_slice) → c.as_slice.result.now ≡ order (the_book c.self.inside.draft)
told c = c.as_slice.ensures.value ∙ c.self.invariant.order

pub returns-clause-within : goal.returns-clause-within
returns-clause-within c =
    let d = c.self.inside.draft in
    let same : d ≡ c.args.self.now = c.self.view_is in
    rw (told c, ← same, ← many-alerts d) (order-below (the_book d))

pub returns-clause-count : goal.returns-clause-count
returns-clause-count c =
    let d = c.self.inside.draft in
    let same : d ≡ c.args.self.now = c.self.view_is in
    ap length (told c) ∙ length-order (the_book d) ∙ many-alerts d ∙ ap (λ (e : Draft). length e.alerts.items) same
