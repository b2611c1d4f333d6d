use Rattle.std.proofs.Common.{◌≡◌, ◌<◌, ℕ, []}
use Rattle.ecam_spec.specs.Situation.{alert_at}
use Rattle.book_model.specs.Sealed.{the_book}
use Rattle.status_page.proofs.count.has_status_lines.Given as goal

abbrev pub invariant-loop-alert : goal.invariant-loop-alert
invariant-loop-alert l = (a : ℕ) → a < l.alert → (alert_at (the_book l.book) a).status ≡ []
