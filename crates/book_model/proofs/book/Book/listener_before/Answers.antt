use Rattle.std.proofs.Common.{◌≡◌, ◌<◌, ◌*◌, ◌∙◌, length, arith}
use Rattle.book_model.specs.Sealed.{the_book}
use Rattle.book_model.proofs.book.Book.listener_before.Goals as goal

pub listener_before-requires : goal.listener_before-requires
listener_before-requires c =
    let same : c.self.inside.draft ≡ c.args.self.now = c.self.view_is in
    let here : c.args.place < 3 * length (the_book c.self.inside.draft).parameters = rw same c.requires in
    omega (arith, c.self.invariant.index.count)

pub returns-clause-value : goal.returns-clause-value
returns-clause-value c =
    let same : c.self.inside.draft ≡ c.args.self.now = c.self.view_is in
    rw (← same) (λ s there. c.listener_before.ensures ∙ c.self.invariant.index.before c.args.place s there)
