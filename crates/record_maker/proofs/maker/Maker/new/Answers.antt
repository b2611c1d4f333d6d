use Rattle.std.proofs.Common.{◌≡◌, ◌-◌, ◌++◌, Some, ap, ◌∙◌, arith}
use Rattle.std.specs.Prelude.{codes}
use Rattle.ecam_spec.specs.Output.{line}
use Rattle.record_maker.specs.Record.{moments, made}
use Rattle.record_maker.proofs.maker.Maker.new.Goals as goal

pub returns-clause-left : goal.returns-clause-left
unfolding made
returns-clause-left c =
    let all : c.args.moments - 0 ≡ c.args.moments = omega arith in
    ap Some (
    ap (λ l. l ++ (moments 0 c.start_of.result (c.args.moments - 0) ++ line (codes "E"))) c.new.ensures
    ∙ ap (λ n. moments 0 c.start_of.result n ++ line (codes "E")) all
    ∙ ap (λ d. moments 0 d c.args.moments ++ line (codes "E")) c.start_of.ensures)
