use Rattle.std.proofs.Common.{◌≡◌, ◌+◌, ◌&&◌, ◌||◌, ◌==◌, if◌then◌else◌, false, length, sym, ap, ◌∙◌}
use Rattle.book_model.specs.Sealed.{the_book}
use Rattle.term_eval.specs.Woken.{differ}
use Rattle.term_eval.specs.declared.reading.Reading.TheVariants.{Flag}
use Rattle.fwc_lane.proofs.Awake.{awake-none}
use Rattle.fwc_lane.proofs.waking.wake_computers.Goals as goal

pub returns-else-differ-2-clause-wakes : goal.returns-else-differ-2-clause-wakes
returns-else-differ-2-clause-wakes c =
    let b = the_book c.args.book.now in
    let old = c.args.terms.now in
    let first = length b.parameters + length b.alerts + 26 in
    let second = length b.parameters + length b.alerts + 27 in
    let one : differ c.args.one_up old.one_up ≡ false = sym c.differ.ensures ∙ c.if-differ.false in
    let two : differ c.args.two_up old.two_up ≡ false = sym c.differ-else-differ.ensures ∙ c.if-differ-2.false in
    awake-none b (λ o. (differ c.args.one_up old.one_up && (o == first)) || (differ c.args.two_up old.two_up && (o == second)))
    (λ o. Flag (if o == first then c.args.one_up else c.args.two_up)) old
    (λ o. ap (λ x. (x && (o == first)) || (differ c.args.two_up old.two_up && (o == second))) one ∙ ap (λ x. x && (o == second)) two)
