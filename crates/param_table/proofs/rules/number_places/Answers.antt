use Rattle.std.proofs.Common.{◌≡◌, ◌*◌, length, sym, ap, ◌∙◌, subst, arith}
use Rattle.std.proofs.lemmas.List.{length-map}
use Rattle.book_model.specs.View.{parameter_of}
use Rattle.book_model.specs.Sealed.{the_book}
use Rattle.param_table.specs.Rules.{AreNumbered}
use Rattle.param_table.proofs.NumberingSteps.{none_numbered, params_read}
use Rattle.param_table.proofs.rules.number_places.Goals as goal

pub loop-place-init : goal.loop-place-init
loop-place-init c =
    let d = c.args.book.now in
    let ps = c.params.result.now in
    let many : length ps ≡ length (the_book d).parameters = sym (length-map ps parameter_of) ∙ ap length (params_read d c.params.ensures.sealed ps c.params.ensures.value) in
    record {
      numbered = none_numbered (the_book d).parameters (record { rules = c.new.result; routes = c.new-2.result; latest = c.in_ok-vec.field-0 }) c.new.ensures.items c.new-2.ensures.items c.in_ok-vec.ensures.items;
      end = ap (λ n. 3 * n) many;
    }

pub returns : goal.returns
returns c =
    let end : c.loop-place.place ≡ 3 * length (the_book c.args.book.now).parameters = omega (arith, c.loop-place.invariant.end, c.loop-place-test.false, c.loop-place.auto.place-end) in
    subst (λ n. AreNumbered (the_book c.args.book.now).parameters n c.loop-place.numbered) end c.loop-place.invariant.numbered
