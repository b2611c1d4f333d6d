use Rattle.std.proofs.Common.{arith, take, ap}
use Rattle.replay_core.proofs.Files.{front-enough, front-whole}
use Rattle.replay_core.proofs.file.read_up_to.Goals as goal

pub returns-then-count-eq0-clause-front : goal.returns-then-count-eq0-clause-front
returns-then-count-eq0-clause-front g c =
    front-whole c.args.most (g.S.Source.left c.args.source.now) (g.S.Source.left c.loop-piece.source) (g.S.Source.left c.read.new.self) c.loop-piece.bytes.items
    (take c.in_ok-count.count c.read.new.into)
    c.loop-piece.invariant.came c.in_ok-count.ensures.moved (ap (λ n. take n c.read.new.into) c.if-count-eq0.true)
    (c.in_ok-count.ensures.end c.if-count-eq0.true) c.loop-piece.invariant.few

pub returns-clause-front : goal.returns-clause-front
returns-clause-front g c =
    front-enough c.args.most (g.S.Source.left c.args.source.now) (g.S.Source.left c.loop-piece.source) c.loop-piece.bytes.items
    c.loop-piece.invariant.came (omega (arith, c.loop-piece.invariant.few, c.loop-piece.bytes.ok.0))
