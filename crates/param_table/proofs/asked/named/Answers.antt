use Rattle.std.proofs.Common.{◌≡◌, ◌+◌, ◌<◌, ◌≤◌, ◌++◌, [], ◌∷◌, false, not, length, get_or, ap, subst, ◌∙◌, arith, inl, inr}
use Rattle.std.proofs.lemmas.Bool.{cases_lt}
use Rattle.std.proofs.lemmas.List.{length-append}
use Rattle.book_model.specs.Sealed.{the_book}
use Rattle.book_model.proofs.BookLists.{many-parameters}
use Rattle.param_table.specs.Asked.{is_named}
use Rattle.param_table.proofs.AskedFor.{silent_named}
use Rattle.param_table.proofs.Numbering.{get_or-last, get_or-before}
use Rattle.param_table.proofs.asked.named.Goals as goal

pub is_silent-requires : goal.is_silent-requires
is_silent-requires c = (c.args.book.now, c.requires, omega arith, omega (arith, ap length c.params-param-end.ensures.value))

pub loop-param-preserved : goal.loop-param-preserved
loop-param-preserved c =
    let d = c.args.book.now in
    let b = the_book d in
    let n = c.loop-param.param in
    let was = c.loop-param.named.items in
    let silent = c.is_silent.result in
    let items : c.push.new.self.items ≡ was ++ not silent ∷ [] = c.in_ok-push.ensures.items in
    let few : n < length b.parameters = omega (arith, ap length c.params-param-end.ensures.value, many-parameters d) in
    let room : n + 1 ≤ length d.params.items + length d.alerts.items + 28 = omega (arith, ap length c.params-param-end.ensures.value) in
    let one : not silent ≡ is_named b n = silent_named d n silent few (c.is_silent.ensures.silent d c.requires room) (c.is_silent.ensures.named d c.requires (omega arith) room) in
    record {
      count = ap length items ∙ length-append was (not silent ∷ []) ∙ ap (λ k. k + 1) c.loop-param.invariant.count;
      named = λ p lt. ap (λ l. get_or l p false) items ∙ elim (cases_lt p n) [
        | inl before ↦ get_or-before was (not silent ∷ []) false n p c.loop-param.invariant.count before ∙ c.loop-param.invariant.named p before
        | inr past ↦
            let at : n ≡ p = omega (arith, past, lt) in
            subst (λ i. get_or (was ++ not silent ∷ []) i false ≡ is_named b i) at (get_or-last was (not silent) false n c.loop-param.invariant.count ∙ one)
      ];
    }

pub returns-clause-count : goal.returns-clause-count
returns-clause-count c = omega (arith, c.loop-param.invariant.count, ap length c.params-param-end.ensures.value, many-parameters c.args.book.now)

pub returns-clause-named : goal.returns-clause-named
returns-clause-named c = λ p lt. c.loop-param.invariant.named p (omega (arith, lt, ap length c.params-param-end.ensures.value, many-parameters c.args.book.now))
