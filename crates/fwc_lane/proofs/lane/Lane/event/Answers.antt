use Rattle.book_model.specs.Sealed.{the_book}
use Rattle.fwc_lane.proofs.Lanes.{press-lane, release-lane, fail-lane, up-lane, end-lane}
use Rattle.fwc_lane.proofs.lane.Lane.event.Goals as goal

pub returns-in-Word-clause-stands : goal.returns-in-Word-clause-stands
returns-in-Word-clause-stands c = λ e up stands. rw c.in-Word.is (c.word.ensures.stands e stands)

pub returns-in-Tick-clause-stands : goal.returns-in-Tick-clause-stands
returns-in-Tick-clause-stands c = λ e up stands. rw c.in-Tick.is (c.tick.ensures.stands e (rw c.in-Tick.is at up) stands)

pub returns-in-Press-clause-stands : goal.returns-in-Press-clause-stands
returns-in-Press-clause-stands c = λ e up stands.
    rw c.in-Press.is (press-lane (the_book c.args.book.now) e _ c.args.self.now c.press.new.self stands c.press.ensures)

pub returns-in-Release-clause-stands : goal.returns-in-Release-clause-stands
returns-in-Release-clause-stands c = λ e up stands.
    rw c.in-Release.is (release-lane (the_book c.args.book.now) e _ c.args.self.now c.release.new.self stands c.release.ensures)

pub returns-in-Fail-clause-stands : goal.returns-in-Fail-clause-stands
returns-in-Fail-clause-stands c = λ e up stands. rw c.in-Fail.is (fail-lane (the_book c.args.book.now) e _ c.args.self.now stands)

pub returns-in-Up-clause-stands : goal.returns-in-Up-clause-stands
returns-in-Up-clause-stands c = λ e up stands. rw c.in-Up.is (up-lane (the_book c.args.book.now) e _ c.args.self.now stands)

pub returns-in-End-clause-stands : goal.returns-in-End-clause-stands
returns-in-End-clause-stands c = λ e up stands. rw c.in-End.is (end-lane (the_book c.args.book.now) e c.args.self.now stands)

pub returns-in-Tick-clause-visits : goal.returns-in-Tick-clause-visits
returns-in-Tick-clause-visits c = λ e tick up stands. rw c.in-Tick.is (c.tick.ensures.visits e (rw c.in-Tick.is at up) stands)
