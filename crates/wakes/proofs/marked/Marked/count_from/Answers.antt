use Rattle.std.proofs.Common.{◌≡◌, ◌≤◌, ◌+◌, subst, ◌∙◌, arith}
use Rattle.wakes.specs.Marks.{marked_below}
use Rattle.wakes.specs.MarkedEnd.{EndsAt}
use Rattle.wakes.proofs.Counting.{none-on}
use Rattle.wakes.proofs.marked.Marked.count_from.Goals as goal

pub returns-then-from-last : goal.returns-then-from-last
returns-then-from-last c =
    let ends = subst (λ ws. EndsAt ws c.self.inside.end) c.self.view_is c.self.invariant in
    omega (arith, none-on c.args.self.now c.self.inside.end ends c.args.from c.args.end c.requires (omega (arith, c.min-last.ensures, c.if-from-last.true)))

pub returns : goal.returns
returns c =
    let ends = subst (λ ws. EndsAt ws c.self.inside.end) c.self.view_is c.self.invariant in
    let words = c.deref.ensures.value ∙ c.self.view_is in
    let least : c.min-last.result ≤ c.args.end = omega (arith, c.min-last.ensures) in
    let rest = none-on c.args.self.now c.self.inside.end ends c.min-last.result c.args.end least (omega (arith, c.min-last.ensures)) in
    subst (λ ws. marked_below ws c.args.from + c.count_in.result ≡ marked_below ws c.min-last.result) words c.count_in.ensures ∙ rest
