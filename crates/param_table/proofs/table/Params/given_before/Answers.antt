use Rattle.std.proofs.Common.{◌≡◌, ◌*◌, ◌-◌, ◌<◌, ltb, length, get_or, true, cond, List, Option, Some, None, sym, subst, ap, ◌∙◌, arith}
use Rattle.std.proofs.lemmas.List.{get_or_default}
use Rattle.book_model.specs.Sealed.{the_book}
use Rattle.param_table.specs.declared.mailbox.Mailbox.{Mailbox}
use Rattle.param_table.specs.declared.rules.Rule.{Rule}
use Rattle.param_table.specs.HeldValues.{at_start, given_by, held_for, unused}
use Rattle.param_table.specs.Words.{reads}
use Rattle.param_table.specs.TableState.{received_before}
use Rattle.param_table.proofs.ByRule.{mailbox_by_rule, rule-is, rule_readable, rule_source, rule_there, started_by_rule}
use Rattle.param_table.proofs.Tables.{mailbox_within}
use Rattle.param_table.proofs.table.Params.given_before.Goals as goal
use Rattle.param_table.proofs.table.Params.given_before.Goals.{After-from}

module _ (c : After-from) where
  abbrev rules : List (Option Rule)
  rules = c.args.self.now.routing.rules.items.items

  there : get_or rules c.args.place None ≡ Some c.in_ok-rule.rule
  there = rule_there c.args.self.now.routing c.table.result.now c.args.place c.index.result.now c.in_ok-rule.rule c.table.ensures c.requires.place c.index.ensures c.in_ok-rule.was

  within : c.in_ok-rule.rule.mailbox < length c.args.self.now.held.mailboxes.items.items
  within =
      subst (λ m. m < length c.args.self.now.held.mailboxes.items.items) (mailbox_by_rule rules c.args.place c.in_ok-rule.rule there)
      (mailbox_within (the_book c.args._book.now) c.args.self.now.routing c.args.self.now.held.mailboxes.items.items c.requires.fits.routed c.args.place)

pub index-now-requires : goal.index-now-requires
index-now-requires c = omega (arith, within c, c.from.ensures)

pub reading-requires : goal.reading-requires
reading-requires c =
    let p = c.args.self.now in
    let b = the_book c.args._book.now in
    let r = c.in_ok-rule.rule in
    let here = rule_there p.routing c.table.result.now c.args.place c.index.result.now r c.table.ensures c.requires.place c.index.ensures c.in_ok-rule.was in
    let rules = p.routing.rules.items.items in
    let is = rule_source b.parameters c.args.place r (get_or rules c.args.place None) (rule-is b.parameters (3 * length b.parameters) rules c.requires.fits.routed.rules (omega arith) c.args.place) here in
    rule_readable b.parameters c.args.place r is c.requires.fits.sound

pub returns-clause-value : goal.returns-clause-value
returns-clause-value c =
    let p = c.args.self.now in
    let rules = p.routing.rules.items.items in
    let boxes = p.held.mailboxes.items.items in
    let r = c.in_ok-rule.rule in
    let here = rule_there p.routing c.table.result.now c.args.place c.index.result.now r c.table.ensures c.requires.place c.index.ensures c.in_ok-rule.was in
    let few : r.mailbox < length boxes =
    subst (λ m. m < length boxes) (mailbox_by_rule rules c.args.place r here) (mailbox_within (the_book c.args._book.now) p.routing boxes c.requires.fits.routed c.args.place) in
    let box = c.index-now.result.now in
    let box_is : box ≡ get_or boxes r.mailbox unused =
    c.index-now.ensures ∙ ap (λ i. get_or boxes i box) c.from.ensures ∙ get_or_default boxes r.mailbox box unused few in
    let start = at_start p.clock (get_or boxes r.mailbox unused) in
    let mailbox : c.at_start-mailbox.result ≡ start = c.at_start-mailbox.ensures ∙ ap (at_start p.clock) box_is in
    let held : received_before p c.args.place ≡ held_for start r.stale = started_by_rule rules boxes p.clock c.args.place r here in
    let fresh : ltb (p.clock - 1) (held_for start r.stale).end ≡ true =
    sym (c.is_fresh_for.ensures ∙ ap (λ (m : Mailbox). ltb c.saturating_sub.result (held_for m r.stale).end) mailbox ∙ ap (λ t. ltb t (held_for start r.stale).end) c.saturating_sub.ensures)
    ∙ c.if-not-is_fresh_for.false in
    c.reading.ensures.value ∙ ap (reads r.kind r.low r.range) (c.new.ensures ∙ ap (λ (m : Mailbox). m.bits) mailbox)
    ∙ sym (ap (λ o. given_by (p.clock - 1) o (received_before p c.args.place)) here
    ∙ ap (given_by (p.clock - 1) (Some r)) held
    ∙ ap (λ b. cond b (reads r.kind r.low r.range start.bits) None) fresh)
