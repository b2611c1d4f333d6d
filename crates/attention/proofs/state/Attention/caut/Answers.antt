use Rattle.std.proofs.Common.{ap}
use Rattle.attention.specs.declared.state.Lights.{Lights}
use Rattle.attention.proofs.Heard.{lights-told}
use Rattle.attention.proofs.state.Attention.caut.Goals as goal

pub returns-clause-answer : goal.returns-clause-answer
returns-clause-answer c = λ b a k stands. ap (λ (l : Lights). l.caut) (lights-told a b k c.args.self.now stands)
