use Rattle.std.proofs.Common.{rules, ◌≡◌, max}
use Rattle.term_text.proofs.ListsJudged.{one_more_judged}
use Rattle.term_text.proofs.members.Members.add.Goals as goal

pub returns : goal.returns
returns c = λ names text f fs h k.
    let deepest : c.max-self.result ≡ max c.args.self.now.depth c.args.part.depth = search rules in
    one_more_judged names text c.args.self.now _ c.args.part f fs h k c.earlier_of-self.ensures deepest c.saturating_add-self.ensures c.in_ok-push.ensures.items
