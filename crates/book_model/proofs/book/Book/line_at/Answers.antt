use Rattle.std.proofs.Common.{◌≡◌, ◌<◌, length, map, get_or, ap, ◌∙◌, arith, zero-add}
use Rattle.std.proofs.lemmas.List.{length-map}
use Rattle.book_model.specs.Sealed.{the_book}
use Rattle.book_model.proofs.BookLists.{many-alerts}
use Rattle.book_model.proofs.SealedParts.{length-starts, starts-at}
use Rattle.book_model.proofs.book.Book.line_at.Goals as goal

pub index-requires : goal.index-requires
index-requires c =
    let same : c.self.inside.draft ≡ c.args.self.now = c.self.view_is in
    let here : c.args.alert < length c.self.inside.draft.alerts.items = rw same c.requires in
    omega (arith, ap length c.self.invariant.line_starts, length-starts 0 (map (λ a. length a.lines) (the_book c.self.inside.draft).alerts), length-map (the_book c.self.inside.draft).alerts (λ a. length a.lines), many-alerts c.self.inside.draft)

pub returns-clause-value : goal.returns-clause-value
returns-clause-value c =
    let same : c.self.inside.draft ≡ c.args.self.now = c.self.view_is in
    let here : c.args.alert < length c.self.inside.draft.alerts.items = rw same c.requires in
    let alerts = (the_book c.self.inside.draft).alerts in
    let within : c.args.alert < length alerts = omega (arith, many-alerts c.self.inside.draft) in
    rw (← same) (
    c.index.ensures ∙ ap (λ xs. get_or xs c.args.alert c.index.result.now) c.self.invariant.line_starts
    ∙ starts-at 0 alerts c.args.alert c.index.result.now within ∙ zero-add _)
