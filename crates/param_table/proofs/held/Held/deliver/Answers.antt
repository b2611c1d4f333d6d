use Rattle.std.proofs.Common.{◌≡◌, ◌<◌, ◌==◌, ◌&&◌, ◌||◌, not, true, false, get_or, sym, ap, subst, ◌∙◌, arith}
use Rattle.std.specs.List.{list_any}
use Rattle.std.proofs.lemmas.Bool.Decides.{nat_tests}
use Rattle.std.proofs.lemmas.List.{get_or_default}
use Rattle.wakes.specs.Marks.{is_marked, room}
use Rattle.wakes.proofs.Lent.{come_back}
use Rattle.param_table.specs.declared.mailbox.Listener.{Listener}
use Rattle.param_table.specs.declared.mailbox.Mailbox.{Mailbox}
use Rattle.param_table.specs.HeldValues.{all_fresh, held_for, hearers_of, keeps_saying, says_same, unused}
use Rattle.param_table.proofs.Listeners.{fresh_marks, same_marks}
use Rattle.param_table.proofs.Summed.{back-summed}
use Rattle.param_table.proofs.held.Held.deliver.Goals as goal

pub returns-then-from-end_for-clause-marks : goal.returns-then-from-end_for-clause-marks
returns-then-from-end_for-clause-marks c = λ p.
    let boxes = c.args.self.now.mailboxes.items.items in
    let ls = c.args.listeners.now in
    let m = get_or boxes c.args.mailbox unused in
    let bits = c.args.bits in
    let before = c.index_mut-now.result.now in
    let is : before ≡ m = c.index_mut-now.ensures.value ∙ get_or_default boxes c.args.mailbox before unused c.requires.mailbox in
    ap (λ ws. is_marked ws p) (come_back c.args.self.now.changed c.mark_begun.new.changed (c.mark_begun.ensures.room ∙ ap room c.words_mut.ensures.value))
    ∙ subst (λ (b : Mailbox). is_marked c.mark_begun.new.changed p ≡ (list_any (λ (l : Listener). p == l.param && not (keeps_saying c.args.clock bits b l)) (hearers_of ls b) || is_marked c.words_mut.result.now p)) is (c.mark_begun.ensures.marks p)
    ∙ ap (λ ws. list_any (λ (l : Listener). p == l.param && not (keeps_saying c.args.clock bits m l)) (hearers_of ls m) || is_marked ws p) c.words_mut.ensures.value

pub returns-then-from-end_for-clause-summed : goal.returns-then-from-end_for-clause-summed
returns-then-from-end_for-clause-summed c =
    back-summed c.args.self.now.changed c.words_mut.result.now c.mark_begun.new.changed c.args.self.now.busy c.mark_begun.new.busy c.words_mut.ensures.value c.mark_begun.ensures.room c.mark_begun.ensures.summed

pub returns-then-was-bits-clause-summed : goal.returns-then-was-bits-clause-summed
returns-then-was-bits-clause-summed c =
    back-summed c.args.self.now.changed c.words_mut-then-was-bits.result.now c.mark_turned.new.changed c.args.self.now.busy c.mark_turned.new.busy c.words_mut-then-was-bits.ensures.value c.mark_turned.ensures.room c.mark_turned.ensures.summed

pub returns-then-was-bits-clause-marks : goal.returns-then-was-bits-clause-marks
returns-then-was-bits-clause-marks c = λ p.
    let boxes = c.args.self.now.mailboxes.items.items in
    let ls = c.args.listeners.now in
    let m = get_or boxes c.args.mailbox unused in
    let bits = c.args.bits in
    let old = is_marked c.args.self.now.changed p in
    let before = c.index_mut-now.result.now in
    let is : before ≡ m = c.index_mut-now.ensures.value ∙ get_or_default boxes c.args.mailbox before unused c.requires.mailbox in
    let end : c.end_for.result ≡ (held_for m m.hearers.soonest).end = c.end_for.ensures ∙ ap (λ (b : Mailbox). (held_for b b.hearers.soonest).end) is in
    let less : c.args.clock < c.end_for.result = omega (arith, c.from-2.ensures, c.if-from-end_for.false) in
    let fresh : all_fresh c.args.clock m ≡ true = let before_end : c.args.clock < (held_for m m.hearers.soonest).end = omega (arith, less, end) in grind (arith, nat_tests) in
    ap (λ ws. is_marked ws p) (come_back c.args.self.now.changed c.mark_turned.new.changed (c.mark_turned.ensures.room ∙ ap room c.words_mut-then-was-bits.ensures.value))
    ∙ subst (λ (b : Mailbox). is_marked c.mark_turned.new.changed p ≡ (list_any (λ (l : Listener). p == l.param && not (says_same l b.bits bits)) (hearers_of ls b) || is_marked c.words_mut-then-was-bits.result.now p)) is (c.mark_turned.ensures.marks p)
    ∙ ap (λ ws. list_any (λ (l : Listener). p == l.param && not (says_same l m.bits bits)) (hearers_of ls m) || is_marked ws p) c.words_mut-then-was-bits.ensures.value
    ∙ ap (λ t. t || old) (fresh_marks c.args.clock bits m p (hearers_of ls m) fresh c.requires.listed.soonest)

pub returns-else-was-bits-clause-marks : goal.returns-else-was-bits-clause-marks
returns-else-was-bits-clause-marks c = λ p.
    let boxes = c.args.self.now.mailboxes.items.items in
    let ls = c.args.listeners.now in
    let m = get_or boxes c.args.mailbox unused in
    let bits = c.args.bits in
    let before = c.index_mut-now.result.now in
    let is : before ≡ m = c.index_mut-now.ensures.value ∙ get_or_default boxes c.args.mailbox before unused c.requires.mailbox in
    let end : c.end_for.result ≡ (held_for m m.hearers.soonest).end = c.end_for.ensures ∙ ap (λ (b : Mailbox). (held_for b b.hearers.soonest).end) is in
    let less : c.args.clock < c.end_for.result = omega (arith, c.from-2.ensures, c.if-from-end_for.false) in
    let fresh : all_fresh c.args.clock m ≡ true = let before_end : c.args.clock < (held_for m m.hearers.soonest).end = omega (arith, less, end) in grind (arith, nat_tests) in
    let own : m.bits ≡ bits = sym (ap (λ (b : Mailbox). b.bits) is) ∙ c.if-was-bits.false in
    let none : list_any (λ (l : Listener). p == l.param && not (keeps_saying c.args.clock bits m l)) (hearers_of ls m) ≡ false =
    sym (fresh_marks c.args.clock bits m p (hearers_of ls m) fresh c.requires.listed.soonest)
    ∙ ap (λ n. list_any (λ (l : Listener). p == l.param && not (says_same l n bits)) (hearers_of ls m)) own
    ∙ same_marks bits p (hearers_of ls m) in
    sym (ap (λ t. t || is_marked c.args.self.now.changed p) none)
