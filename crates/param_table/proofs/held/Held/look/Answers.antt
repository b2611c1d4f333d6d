use Rattle.std.proofs.Common.{◌≡◌, ◌==◌, ◌&&◌, ◌||◌, true, get_or, sym, ap, subst, ◌∙◌}
use Rattle.std.specs.List.{list_any}
use Rattle.std.proofs.lemmas.List.{get_or_default}
use Rattle.wakes.specs.Marks.{is_marked, room}
use Rattle.wakes.proofs.Lent.{come_back}
use Rattle.param_table.specs.declared.mailbox.Listener.{Listener}
use Rattle.param_table.specs.declared.mailbox.Mailbox.{Mailbox}
use Rattle.param_table.specs.HeldValues.{all_fresh, hearers_of, held_for, is_ending, unused}
use Rattle.param_table.proofs.Listeners.{fresh_none}
use Rattle.param_table.proofs.Summed.{back-summed}
use Rattle.param_table.proofs.held.Held.look.Goals as goal

pub returns-then-all_fresh-clause-marks : goal.returns-then-all_fresh-clause-marks
returns-then-all_fresh-clause-marks c = λ p.
    let boxes = c.args.self.now.mailboxes.items.items in
    let m = get_or boxes c.args.mailbox unused in
    let is : c.index-looked.result.now ≡ m = c.index-looked.ensures ∙ get_or_default boxes c.args.mailbox c.index-looked.result.now unused c.requires.mailbox in
    let fresh : all_fresh c.args.clock m ≡ true = sym (c.all_fresh.ensures ∙ ap (all_fresh c.args.clock) is) ∙ c.if-all_fresh.true in
    sym (ap (λ b. b || is_marked c.args.self.now.changed p) (fresh_none c.args.clock m p (hearers_of c.args.listeners.now m) fresh c.requires.listed.soonest))

pub returns-clause-marks : goal.returns-clause-marks
returns-clause-marks c = λ p.
    let boxes = c.args.self.now.mailboxes.items.items in
    let ls = c.args.listeners.now in
    let m = get_or boxes c.args.mailbox unused in
    let clock = c.args.clock in
    let is : c.index-looked.result.now ≡ m = c.index-looked.ensures ∙ get_or_default boxes c.args.mailbox c.index-looked.result.now unused c.requires.mailbox in
    let left = c.mark_ending-next.new.changed in
    ap (λ ws. is_marked ws p) (come_back c.args.self.now.changed left (c.mark_ending-next.ensures.room ∙ ap room c.words_mut.ensures.value))
    ∙ subst (λ (b : Mailbox). is_marked left p ≡ (list_any (λ (l : Listener). p == l.param && is_ending clock (held_for b l.stale)) (hearers_of ls b) || is_marked c.words_mut.result.now p)) is (c.mark_ending-next.ensures.marks p)
    ∙ ap (λ ws. list_any (λ (l : Listener). p == l.param && is_ending clock (held_for m l.stale)) (hearers_of ls m) || is_marked ws p) c.words_mut.ensures.value

pub returns-clause-summed : goal.returns-clause-summed
returns-clause-summed c =
    back-summed c.args.self.now.changed c.words_mut.result.now c.mark_ending-next.new.changed c.args.self.now.busy c.mark_ending-next.new.busy c.words_mut.ensures.value c.mark_ending-next.ensures.room c.mark_ending-next.ensures.summed
