use Rattle.std.proofs.Common.{ℕ, suc, refl, sym, ◌∙◌, ap, subst}
use Rattle.ecam_spec.specs.Book.{Book}
use Rattle.ecam_spec.specs.History.{Moment}
use Rattle.ecam_spec.specs.Situation.{value_in, phase_in, flight}
use Rattle.view_spec.specs.Advisories.{rows_in}
use Rattle.book_model.specs.Sealed.{the_book}
use Rattle.book_model.proofs.BookLists.{many-parameters}
use Rattle.fwc_lane.specs.LaneStands.{WholeStands}
use Rattle.fwc_lane.specs.declared.lane.Lane.{Lane}
use Rattle.advisories.specs.Watches.{AreWatched, AreWithin}
use Rattle.advisories.proofs.Ended.{whole-ended}
use Rattle.advisories.proofs.PhaseBounds.{IsOneOfTen, phase-within}
use Rattle.advisories.proofs.Told.{fit-within, step-all, rows-told}
use Rattle.advisories.proofs.view.step_up.Goals as goal

-- the phase that a computer tells is one of ten
bounds : (b : Book) (m : ℕ → Moment) (k : ℕ) (l : Lane) → WholeStands b m (suc k) l → IsOneOfTen l.phase.number
unfolding phase_in
bounds b m k l stands = subst IsOneOfTen (sym (stands.phase k refl)) (phase-within (flight b m) k)

pub step-requires-clause-fits : goal.step-requires-clause-fits
step-requires-clause-fits c = c.requires.ended.2.stands.fits

pub step-requires-clause-within : goal.step-requires-clause-within
step-requires-clause-within c = subst (λ n. AreWithin n c.args.watches.now) (many-parameters c.args.book.now) (fit-within (the_book c.args.book.now) c.args.watches.now c.requires.fit)

pub panel_of-requires-clause-first : goal.panel_of-requires-clause-first
panel_of-requires-clause-first c =
    let b = the_book c.args.book.now in
    let (m, k, ended) = c.requires.ended in
    (bounds b m k c.args.lane.now (whole-ended b m k c.args.lane.now ended)).0

pub panel_of-requires-clause-last : goal.panel_of-requires-clause-last
panel_of-requires-clause-last c =
    let b = the_book c.args.book.now in
    let (m, k, ended) = c.requires.ended in
    (bounds b m k c.args.lane.now (whole-ended b m k c.args.lane.now ended)).1

pub returns-clause-settings : goal.returns-clause-settings
returns-clause-settings c = c.step.ensures.watched

pub returns-clause-stands : goal.returns-clause-stands
returns-clause-stands c m k ended stand =
    let b = the_book c.args.book.now in
    subst (AreWatched (value_in b m) (suc k)) (sym (c.step.ensures.stepped m k ended)) (step-all (value_in b m) k c.args.watches.now stand)

pub returns-clause-rows : goal.returns-clause-rows
returns-clause-rows c m k ended stand =
    let b = the_book c.args.book.now in
    let whole = whole-ended b m k c.args.lane.now ended in
    c.panel_of.ensures
    ∙ rows-told b m k c.args.lane.now.phase.number (whole.phase k refl) c.is_free.result (c.is_free.ensures b m k whole) c.step.new.watches (returns-clause-stands c m k ended stand)
    ∙ ap (λ limits. rows_in b m limits k) c.step.ensures.watched
