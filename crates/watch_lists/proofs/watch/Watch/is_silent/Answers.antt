use Rattle.std.proofs.Common.{sym, ◌∙◌, arith}
use Rattle.std.proofs.lemmas.Bool.{eqb-true, eq-eqb}
use Rattle.std.proofs.lemmas.List.{get_or_default}
use Rattle.watch_lists.proofs.Silence.{silent, none-named}
use Rattle.watch_lists.proofs.watch.Watch.is_silent.Goals as goal

pub returns-clause-silent : goal.returns-clause-silent
returns-clause-silent c = λ d is few same o j low high.
    let starts = c.args.self.now.starts.items.items in
    let from = get_or_default starts c.args.from c.index.result.now 0 (omega (arith, low, high, few, is.count)) in
    let to = get_or_default starts c.args.to c.index-2.result.now 0 (omega (arith, few, is.count)) in
    silent d c.args.self.now is c.args.from c.args.to few (sym (c.index.ensures ∙ from) ∙ eqb-true c.index.result.now c.index-2.result.now same ∙ c.index-2.ensures ∙ to) o j low high

pub returns-clause-named : goal.returns-clause-named
returns-clause-named c = λ d is le few none.
    let starts = c.args.self.now.starts.items.items in
    let from = get_or_default starts c.args.from c.index.result.now 0 (omega (arith, le, few, is.count)) in
    let to = get_or_default starts c.args.to c.index-2.result.now 0 (omega (arith, few, is.count)) in
    eq-eqb c.index.result.now c.index-2.result.now
    (c.index.ensures ∙ from ∙ none-named d c.args.self.now is c.args.from c.args.to le few none ∙ sym (c.index-2.ensures ∙ to))
