use Rattle.std.proofs.Common.{◌<◌, None, length, get_or, set, IfSome, refl, sym, ap, ◌∙◌, inl, inr, arith}
use Rattle.std.proofs.lemmas.Bool.{cases_eq}
use Rattle.std.proofs.lemmas.List.{get_or-set_other, length-set}
use Rattle.std.proofs.lemmas.List.Elements.{All-set}
use Rattle.ecam_spec.specs.Situation.{parameter_at}
use Rattle.ecam_spec.specs.Value.{value}
use Rattle.book_model.specs.Sealed.{the_book}
use Rattle.book_model.proofs.BookLists.{many-parameters}
use Rattle.system_display.specs.Pages.{IsShort}
use Rattle.fwc_lane.proofs.FlagSteps.{set-own}
use Rattle.fwc_lane.proofs.ValueSteps.{is-short}
use Rattle.fwc_lane.proofs.values.read_first.Goals as goal

pub loop-param-init : goal.loop-param-init
loop-param-init c = record { many = refl; short = c.requires.short; read = λ words k stands p lt. absurd (omega arith) }

pub index_mut-requires : goal.index_mut-requires
index_mut-requires c =
    omega (arith, c.loop-param-test.true, ap length c.params-param-end.ensures.value, c.loop-param.invariant.many, c.requires.many, many-parameters c.args.book.now, c.loop-param.values.ok.0)

pub loop-param-preserved : goal.loop-param-preserved
loop-param-preserved c =
    let is = c.loop-param.invariant in
    let old = c.loop-param.values.items in
    let at = c.loop-param.param in
    let v = c.value.result in
    let there : at < length old = omega (arith, c.loop-param-test.true, ap length c.params-param-end.ensures.value, is.many, c.requires.many, many-parameters c.args.book.now) in
    record {
      many = length-set old at v ∙ is.many;
      short = All-set (λ x. IfSome x IsShort) old at v (is-short _ v c.value.ensures.bound) is.short;
      read = λ words k stands p lt. elim (cases_eq p at) [
        | inl e ↦
            ap (λ i. get_or (set old at v) i None) e ∙ set-own old (set old at v) at v None refl there ∙ c.value.ensures.value words k stands
            ∙ ap (λ i. value (parameter_at (the_book c.args.book.now) i) words k) (sym e)
        | inr ne ↦ get_or-set_other old at p v None ne ∙ is.read words k stands p (omega (arith, lt, ne))
      ];
    }

pub returns-clause-values : goal.returns-clause-values
returns-clause-values c = λ words k stands p within.
    c.loop-param.invariant.read words k stands p (omega (arith, within, c.loop-param-test.false, ap length c.params-param-end.ensures.value, many-parameters c.args.book.now))
