use Rattle.std.proofs.Common.{sym, ap, ◌∙◌, arith}
use Rattle.term_eval.specs.Reading.{test_of, atom_says}
use Rattle.term_eval.specs.declared.code.Step.{Step}
use Rattle.condition_codes.proofs.Linking.{within-steps, within-code, own-step}
use Rattle.condition_codes.proofs.codes.CodeTable.says.Goals as goal

pub index-requires : goal.index-requires
index-requires c =
    let of = c.requires.asks in
    omega (
      arith,
      within-steps of.0 c.args.self.now of.2 of.1 c.args.asker.now of.3,
      within-code of.0 c.args.self.now of.2 of.1 c.args.asker.now of.3,
      c.args.self.now.steps.items.ok.0,
      c.from.ensures,
    )

pub says-requires-clause-test : goal.says-requires-clause-test
says-requires-clause-test c =
    let of = c.requires.asks in
    of.3.test
    ∙ ap (λ (s : Step). test_of s.node) (sym (own-step of.0 c.args.self.now of.2 of.1 c.args.asker.now of.3 of.3.place of.3.there c.from.result c.index.result.now c.from.ensures c.index.ensures))

pub returns : goal.returns
returns c b o coded asks p here =
    c.says.ensures
    ∙ ap (λ (s : Step). atom_says s.node c.args.reading) (own-step b c.args.self.now coded o c.args.asker.now asks p here c.from.result c.index.result.now c.from.ensures c.index.ensures)
