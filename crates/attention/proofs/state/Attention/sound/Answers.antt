use Rattle.std.proofs.Common.{◌∙◌, ap}
use Rattle.attention.specs.declared.state.Lights.{Lights}
use Rattle.attention.proofs.Heard.{lights-told}
use Rattle.attention.proofs.state.Attention.sound.Goals as goal

pub returns-clause-answer : goal.returns-clause-answer
returns-clause-answer c = λ b a k stands. c.sound.ensures ∙ ap (λ (l : Lights). l.sound) (lights-told a b k c.args.self.now stands)
