use Rattle.std.proofs.Common.{◌≡◌, ℕ, length, refl, sym, ap, ◌∙◌}
use Rattle.ecam_spec.specs.History.{Moment, Era}
use Rattle.ecam_spec.specs.Replay.{moment_of}
use Rattle.ecam_spec.specs.Situation.{parameter_at, words_in, value_in}
use Rattle.book_model.specs.Sealed.{the_book}
use Rattle.param_table.specs.TableState.{value_before}
use Rattle.fwc_lane.specs.LaneStands.{LaneStands, Continues}
use Rattle.fwc_lane.proofs.Lanes.{value_before-same}
use Rattle.fwc_lane.proofs.lane.Lane.value.Goals as goal
use Rattle.fwc_lane.proofs.lane.Lane.value.Goals.{After-value_before}

-- it is the value before the moment that hasn't ended
by-words : (c : After-value_before) (e : Era) → LaneStands (the_book c.args.book.now) e c.args.self.now → (m : ℕ → Moment) → Continues e m
    → c.value_before.result ≡ value_before (parameter_at (the_book c.args.book.now) c.args.param) (words_in (the_book c.args.book.now) m) (length e.moments)
by-words c e stands m goes =
    let b = the_book c.args.book.now in
    c.value_before.ensures.value (words_in b (moment_of e)) (length e.moments) (stands.params (words_in b (moment_of e)) (λ i le. refl))
    ∙ value_before-same (parameter_at b c.args.param) (words_in b (moment_of e)) (words_in b m) (length e.moments) (λ i lt. ap (λ (x : Moment). x.words) (sym (goes i lt)))

pub returns-clause-value : goal.returns-clause-value
unfolding value_before value_in
returns-clause-value c = λ e stands m goes k count.
    let b = the_book c.args.book.now in
    by-words c e stands m goes ∙ ap (value_before (parameter_at b c.args.param) (words_in b m)) count

pub returns-clause-none : goal.returns-clause-none
unfolding value_before
returns-clause-none c = λ e stands count.
    let b = the_book c.args.book.now in
    by-words c e stands (moment_of e) (λ i lt. refl) ∙ ap (value_before (parameter_at b c.args.param) (words_in b (moment_of e))) count
