use Rattle.std.proofs.Common.{◌*◌, ◌<◌, length, get_or, None, sym, subst, arith}
use Rattle.book_model.specs.Sealed.{the_book}
use Rattle.param_table.proofs.ByRule.{mailbox_by_rule, rule-is, rule_readable, rule_source, rule_there}
use Rattle.param_table.proofs.Tables.{mailbox_within}
use Rattle.param_table.proofs.table.Params.given.Goals as goal

pub held_by-received-requires-clause-mailbox : goal.held_by-received-requires-clause-mailbox
held_by-received-requires-clause-mailbox c =
    let p = c.args.self.now in
    let rules = p.routing.rules.items.items in
    let there = rule_there p.routing c.table.result.now c.args.place c.index.result.now c.in_ok-rule.rule c.table.ensures c.requires.place c.index.ensures c.in_ok-rule.was in
    subst (λ bs. c.in_ok-rule.rule.mailbox < length bs) (sym c.deref.ensures.value)
    (subst (λ m. m < length p.held.mailboxes.items.items) (mailbox_by_rule rules c.args.place c.in_ok-rule.rule there)
    (mailbox_within (the_book c.args._book.now) p.routing p.held.mailboxes.items.items c.requires.fits.routed c.args.place))

pub reading-requires : goal.reading-requires
reading-requires c =
    let p = c.args.self.now in
    let b = the_book c.args._book.now in
    let r = c.in_ok-rule.rule in
    let there = rule_there p.routing c.table.result.now c.args.place c.index.result.now r c.table.ensures c.requires.place c.index.ensures c.in_ok-rule.was in
    let rules = p.routing.rules.items.items in
    let is = rule_source b.parameters c.args.place r (get_or rules c.args.place None) (rule-is b.parameters (3 * length b.parameters) rules c.requires.fits.routed.rules (omega arith) c.args.place) there in
    rule_readable b.parameters c.args.place r is c.requires.fits.sound
