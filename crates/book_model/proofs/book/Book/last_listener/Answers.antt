use Rattle.std.proofs.Common.{◌≡◌, ◌∙◌}
use Rattle.book_model.proofs.book.Book.last_listener.Goals as goal

pub returns-clause-value : goal.returns-clause-value
returns-clause-value c =
    let same : c.self.inside.draft ≡ c.args.self.now = c.self.view_is in
    rw (← same) (c.last_listener.ensures ∙ c.self.invariant.index.last c.args.bus c.args.bits)
