use Rattle.std.proofs.Common.{◌≡◌, ℕ, true, false, List, [], ◌∷◌, ◌++◌, length, refl, sym, ◌∙◌, subst}
use Rattle.ecam_spec.specs.declared.kinds.Event.{Event}
use Rattle.ecam_spec.specs.declared.kinds.Event.TheVariants.{Tick}
use Rattle.ecam_spec.specs.Book.{Book}
use Rattle.ecam_spec.specs.History.{none_up, Moment, era}
use Rattle.ecam_spec.specs.Replay.{moment_of}
use Rattle.ecam_spec.specs.Situation.{value_in}
use Rattle.view_spec.specs.Ticks.{is_up}
use Rattle.book_model.specs.Sealed.{the_book}
use Rattle.fwc_lane.specs.LaneStands.{Continues, LaneStands}
use Rattle.fwc_lane.specs.declared.lane.Lane.{Lane}
use Rattle.fwc_pair.specs.declared.pair.Pair.{Pair}
use Rattle.fwc_pair.specs.PairState.{flags_of, PairStands}
use Rattle.fwc_pair.proofs.Pairs.{some-up}
use Rattle.advisories.specs.declared.watches.Watch.{Watch}
use Rattle.advisories.specs.Watches.{all_watched, AreWatched}
use Rattle.advisories.specs.State.{HasEnded, StandInEra}
use Rattle.advisories.proofs.Eras.{ended, up-kept, ended-count, continued, told-up}
use Rattle.advisories.proofs.RowsAtTicks.{at-up, at-down}
use Rattle.advisories.proofs.view.step_by.Goals as goal

-- the moment that the Tick ended is the last whole one of the era
has-ended : (b : Book) (h : List Event) (l : Lane) → LaneStands b (ended h) l → (m : ℕ → Moment) → Continues (ended h) m → HasEnded b m (length (era h).moments) l
has-ended b h l stands m goes = record { current = ended h; stands = stands; goes = goes; counted = ended-count h }

stood : (b : Book) (h : List Event) (ws : List Watch) → (is_up h ≡ true → StandInEra b (era h) ws) → is_up (h ++ Tick ∷ []) ≡ true → (m : ℕ → Moment) → Continues (ended h) m
    → AreWatched (value_in b m) (length (era h).moments) ws
stood b h ws stand up m goes = stand (sym (up-kept h) ∙ up) m (continued h m goes)

live : (b : Book) (h : List Event) (p : Pair) → PairStands b (h ++ Tick ∷ []) p → (none_up (flags_of p) ≡ true → true ≡ false) → is_up (h ++ Tick ∷ []) ≡ true
live b h p pair tells = told-up h b p pair false (some-up p (λ none. absurd (let w : true ≡ false = tells none in cc)))

pub step_up-requires-clause-ended : goal.step_up-requires-clause-ended
step_up-requires-clause-ended c =
    let b = the_book c.args.book.now in
    let (h, pair) = c.requires.pair in
    (moment_of (ended h), length (era h).moments, has-ended b h c.in-Some.lane.now (c.in-Some.ensures.stands b (h ++ Tick ∷ []) pair) (moment_of (ended h)) (λ i lt. refl))

pub returns-in-Some-clause-rows : goal.returns-in-Some-clause-rows
returns-in-Some-clause-rows c h pair stand =
    let b = the_book c.args.book.now in
    let up = live b h c.args.pair.now pair c.in-Some.ensures.none.1 in
    let m = moment_of (ended h) in
    c.step_up.ensures.rows m (length (era h).moments) (has-ended b h c.in-Some.lane.now (c.in-Some.ensures.stands b (h ++ Tick ∷ []) pair) m (λ i lt. refl))
    (stood b h c.args.watches.now stand up m (λ i lt. refl))
    ∙ sym (at-up b (all_watched c.args.watches.now) h up)

pub returns-in-Some-clause-stands : goal.returns-in-Some-clause-stands
returns-in-Some-clause-stands c h pair stand up m goes =
    let b = the_book c.args.book.now in
    subst (λ n. AreWatched (value_in b m) n c.step_up.new.watches) (sym (ended-count h))
    (c.step_up.ensures.stands m (length (era h).moments) (has-ended b h c.in-Some.lane.now (c.in-Some.ensures.stands b (h ++ Tick ∷ []) pair) m goes)
    (stood b h c.args.watches.now stand (up-kept h ∙ up) m goes))

pub returns-in-None-clause-rows : goal.returns-in-None-clause-rows
returns-in-None-clause-rows c h pair stand =
    c.blank.ensures ∙ sym (at-down (the_book c.args.book.now) (all_watched c.args.watches.now) h (told-up h (the_book c.args.book.now) c.args.pair.now pair true (c.in-None.ensures.none.0 refl)))

pub returns-in-None-clause-stands : goal.returns-in-None-clause-stands
returns-in-None-clause-stands c h pair stand up =
    let down = told-up h (the_book c.args.book.now) c.args.pair.now pair true (c.in-None.ensures.none.0 refl) in
    absurd (let same = sym up ∙ sym (up-kept h) ∙ down in cc)
