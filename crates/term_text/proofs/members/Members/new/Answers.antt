use Rattle.std.proofs.Common.{refl}
use Rattle.term_text.proofs.ListsJudged.{nothing_judged}
use Rattle.term_text.proofs.members.Members.new.Goals as goal

pub returns : goal.returns
returns c = λ names text. nothing_judged names text _ refl refl refl c.new.ensures.items
