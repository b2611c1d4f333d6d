use Rattle.std.proofs.Common.{◌≡◌, true, false, sym, ◌∙◌, arith}
use Rattle.std.proofs.lemmas.Grind.{common_steps}
use Rattle.std.specs.List.{list_all}
use Rattle.term_text.specs.Pending.{is_tail}
use Rattle.term_text.proofs.Stack.{whole_back}
use Rattle.term_text.proofs.pending.Pending.is_whole.Goals as goal

pub returns-then-not-is_tail : goal.returns-then-not-is_tail
returns-then-not-is_tail c =
    let all : false ≡ list_all is_tail c.args.self.now.stack.items = grind (arith, common_steps) in
    all ∙ sym (whole_back c.args.self.now.stack.items)

pub returns : goal.returns
returns c =
    let all : true ≡ list_all is_tail c.args.self.now.stack.items = grind (arith, common_steps) in
    all ∙ sym (whole_back c.args.self.now.stack.items)
