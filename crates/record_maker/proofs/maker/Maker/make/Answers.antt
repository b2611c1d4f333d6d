use Rattle.std.proofs.Common.{◌-◌, [], ◌++◌, length, drop, cond, arith, ap, sym, ◌∙◌}
use Rattle.std.specs.Prelude.{codes}
use Rattle.ecam_spec.specs.Output.{line}
use Rattle.record_maker.specs.Record.{moments}
use Rattle.record_maker.proofs.Moments.{left-moment, left-end, left-none, some_bytes}
use Rattle.record_maker.proofs.maker.Maker.make.Goals as goal

pub returns-then-self-clause-left : goal.returns-then-self-clause-left
returns-then-self-clause-left c =
    let m = c.args.self.now in
    left-moment m.moment m.draw m.moments c.put_moment-self.result c.put_moment-self.new.lines.items _ _ c.if-self.true c.put_moment-self.ensures.lines c.put_moment-self.ensures.draw c.requires

pub returns-then-self-clause-some : goal.returns-then-self-clause-some
returns-then-self-clause-some c none =
    let some = some_bytes c.args.self.now.moment c.args.self.now.draw in
    let e = ap length (sym none ∙ c.put_moment-self.ensures.lines) in
    absurd (omega arith)

pub returns-then-not-self-clause-left : goal.returns-then-not-self-clause-left
returns-then-not-self-clause-left c =
    let m = c.args.self.now in
    let rest = drop m.given m.lines.items in
    left-end m.moment m.draw m.moments c.put.new.lines.items rest (line (codes "E")) c.if-self.false (c.put.ensures ∙ ap (λ l. l ++ line (codes "E")) c.clear.ensures) c.requires
    ∙ ap (λ b. rest ++ (moments m.moment m.draw (m.moments - m.moment) ++ cond b [] (line (codes "E")))) (sym c.if-not-self.true)

pub returns-else-not-self-clause-some : goal.returns-else-not-self-clause-some
returns-else-not-self-clause-some c none =
    let m = c.args.self.now in
    ap (λ b. c.clear.new.self.items ++ (moments m.moment m.draw (m.moments - m.moment) ++ cond b [] (line (codes "E")))) c.if-not-self.false
    ∙ left-none m.moment m.draw m.moments c.clear.new.self.items c.if-self.false none
