use Rattle.std.proofs.Common.{refl}
use Rattle.book_model.specs.Sealed.{the_book}
use Rattle.fwc_lane.proofs.Ticks.{came-with}
use Rattle.fwc_lane.proofs.lane.Lane.rest_or_step.Goals as goal

pub returns-then-rests-clause-whole : goal.returns-then-rests-clause-whole
returns-then-rests-clause-whole c = λ m came was.
    c.rest.ensures.whole m
    (came-with (the_book c.args.book.now) m c.args.self.now.moments c.args.self.now.params c.args.self.now.keys _ _ _ _ (c.if-rests.ensures.one_up refl) (c.if-rests.ensures.two_up refl) came) was

pub returns-then-rests-clause-visits : goal.returns-then-rests-clause-visits
returns-then-rests-clause-visits c = λ m came was.
    c.rest.ensures.visits m
    (came-with (the_book c.args.book.now) m c.args.self.now.moments c.args.self.now.params c.args.self.now.keys _ _ _ _ (c.if-rests.ensures.one_up refl) (c.if-rests.ensures.two_up refl) came) was
