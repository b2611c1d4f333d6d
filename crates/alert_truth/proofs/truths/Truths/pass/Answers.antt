use Rattle.std.proofs.Common.{false, ◌+◌, length, refl, sym, ap, subst, ◌∙◌, add-one}
use Rattle.book_model.specs.Sealed.{the_book}
use Rattle.book_model.proofs.BookLists.{many-alerts}
use Rattle.alert_truth.specs.TruthsState.{HalfStand}
use Rattle.alert_truth.proofs.Nearing.{quiet-fits, quiet-near}
use Rattle.alert_truth.proofs.Stepping.{moment-ends, still-stars, still-starred, still-at}
use Rattle.alert_truth.proofs.truths.Truths.pass.Goals as goal

pub returns-clause-fits : goal.returns-clause-fits
returns-clause-fits c =
    let fits = c.requires.fits in
    let near = quiet-near c.args.self.now fits.near in
    record {
      since = fits.since;
      present = fits.present;
      active = fits.active;
      waiting = fits.waiting;
      near_room = fits.near_room;
      due_room = fits.due_room;
      turned_room = fits.turned_room;
      room = fits.room;
      dues = ap length c.pass.ensures ∙ fits.dues;
      restless = fits.restless;
      near = record { present = near.present; active = near.active; waiting = near.waiting; starred = near.starred; up = near.up; primaries = near.primaries };
      stars = quiet-fits (the_book c.args.book.now) c.args.self.now.stars fits.stars;
    }

pub returns-clause-stands : goal.returns-clause-stands
returns-clause-stands c = λ conditions phases k half.
    let b = the_book c.args.book.now in
    let old = c.args.self.now in
    let all : HalfStand b conditions phases k (length b.alerts) old = subst (λ n. HalfStand b conditions phases k n old) (sym (many-alerts c.args.book.now)) half in
    let still = all.changing.0 c.requires.changing in
    moment-ends b conditions phases k old (record old { moments = old.moments + 1; dues = c.pass.new.self; stars = record old.stars { turned = false } }) all (returns-clause-fits c)
    (add-one old.moments) c.pass.ensures refl refl refl refl c.requires.changing (c.requires.changed ∙ sym c.requires.changing)
    (still-stars b conditions phases k old.stars still all.stars)
    (λ e. still-starred b conditions phases k still, λ same. refl)
    (λ a within off. still-at b conditions phases k still a within)
