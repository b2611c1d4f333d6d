use Rattle.std.proofs.Common.{◌≡◌, ◌<◌, ◌+◌, ◌*◌, ◌/◌, suc, false, ◌||◌, None, cond, length, get_or, refl, sym, ap, ◌∙◌, subst, arith}
use Rattle.std.specs.Prelude.{find}
use Rattle.std.proofs.lemmas.Bool.{or_parts}
use Rattle.wakes.specs.Marks.{is_marked, room}
use Rattle.wakes.specs.declared.marked.Marked.{Marked}
use Rattle.ecam_spec.specs.Situation.{primaries}
use Rattle.book_model.specs.Sealed.{the_book}
use Rattle.book_model.proofs.BookLists.{many-alerts}
use Rattle.alert_truth.specs.Listed.{primary_of}
use Rattle.alert_truth.specs.Stars.{HasPlace, Takes, IsUnasked}
use Rattle.alert_truth.specs.declared.stars.Stars.{Stars}
use Rattle.alert_truth.proofs.Listings.{secondaries_of}
use Rattle.alert_truth.proofs.Starring.{IsHalfTaken, half-on, place-of-alert, one-taken, taken-stands}
use Rattle.alert_truth.proofs.Nearing.{IsNearing, nearing-begins, nearing-on, nearing-kept, nearing-less}
use Rattle.alert_truth.proofs.stars.Stars.settle.Goals as goal
use Rattle.alert_truth.proofs.stars.Stars.settle.Goals.{then-not-present-alert, else-not-present-alert}

pub loop-alert-init : goal.loop-alert-init
loop-alert-init c =
    let b = the_book c.args.book.now in
    let on = c.args.active.now in
    let first = c.args.self.now in
    let asked = c.ask.new.asked in
    let start : Stars = record first { asked = asked; turned = false } in
    let fits = c.requires.fits in
    record {
      most = c.next_or-alert.ensures.end;
      asks = c.next_or-alert.ensures.marked;
      places = refl;
      moved_places = refl;
      moved = λ a off. (off, refl);
      half = half-on b on first asked start 0 c.next_or-alert.result (omega arith) c.next_or-alert.ensures.none (record {
        fits = record {
          listers = fits.listers;
          asked = c.ask.ensures.room ∙ fits.asked;
          primaries = fits.primaries;
          starred = fits.starred;
          up = fits.up;
        };
        keeps = refl;
        taken = λ a below. absurd (omega (arith, below));
        unasked = λ a off. record { primaries = refl; starred = refl; up = refl };
        left = λ a from. record { primaries = refl; starred = refl; up = refl };
      });
      nearing =
          nearing-on on c.args.present.now c.args.waiting.now first start c.args.near.now 0 c.next_or-alert.result (omega arith)
          (nearing-begins on c.args.present.now c.args.waiting.now first asked c.args.near.now c.requires.active c.requires.present c.requires.waiting c.requires.away);
    }

pub ask-requires-clause-asked : goal.ask-requires-clause-asked
ask-requires-clause-asked c = c.requires.fits.asked ∙ ap (λ n. 64 * (n / 64 + 1)) (many-alerts c.args.book.now)

pub primary-primary-requires : goal.primary-primary-requires
primary-primary-requires c =
    let few = many-alerts c.args.book.now in
    (the_book c.args.book.now, c.loop-alert.invariant.half.fits.listers, c.requires.active_places ∙ sym few, omega (arith, c.loop-alert-test.true, c.requires.active_places, few))

pub star-requires-clause-place : goal.star-requires-clause-place
star-requires-clause-place c =
    place-of-alert (the_book c.args.book.now) c.args.active.now c.args.self.now c.ask.new.asked c.loop-alert.self c.loop-alert.alert
    (omega (arith, c.loop-alert-test.true, c.requires.active_places, many-alerts c.args.book.now)) c.loop-alert.invariant.half

pub loop-alert-preserved : goal.loop-alert-preserved
loop-alert-preserved c =
    let b = the_book c.args.book.now in
    let on = c.args.active.now in
    let shows = c.args.present.now in
    let waits = c.args.waiting.now in
    let first = c.args.self.now in
    let asked = c.ask.new.asked in
    let i = c.loop-alert.alert in
    let near = c.loop-alert.near in
    let now = c.loop-alert.self in
    let next = c.star.new.self in
    let primary = primary_of b on i in
    let was = c.loop-alert.invariant in
    let within : i < length b.alerts = omega (arith, c.loop-alert-test.true, c.requires.active_places, many-alerts c.args.book.now) in
    let takes : Takes i (get_or on i false) primary now next
    = subst (λ o. Takes i (get_or on i false) o now next) (c.primary-primary.ensures b was.half.fits.listers within) c.star.ensures.takes in
    let has : HasPlace i now = place-of-alert b on first asked now i within was.half in
    let none : get_or on i false ≡ false → primary ≡ None = λ off. ap (λ f. cond f (find (λ p. get_or on p false) (primaries b i)) None) off in
    let half : IsHalfTaken b on first next asked (suc i) = one-taken b on first asked now next i within (was.asks c.loop-alert-test.true) takes was.half in
    let keeps = half.keeps in
    let stays : room c.if-not-present-alert.near ≡ room near =
    elim c.if-not-present-alert.branch [
      | then-not-present-alert w ↦ ap (λ (m : Marked). room m) w.near-is ∙ w.unmark.ensures.room
      | else-not-present-alert w ↦ ap (λ (m : Marked). room m) w.near-is
    ] in
    let nearing : IsNearing on shows waits first next c.if-not-present-alert.near (suc i) =
    elim c.if-not-present-alert.branch [
      | then-not-present-alert w ↦
          let quiet = or_parts (get_or shows i false || get_or on i false) (get_or waits i false) w.if-not-present-alert.true in
          let away = or_parts (get_or shows i false) (get_or on i false) quiet.0 in
          subst (λ (m : Marked). IsNearing on shows waits first next m (suc i)) (sym w.near-is)
          (nearing-less on shows waits first now next near i primary has takes none was.nearing w.unmark.new.self w.unmark.ensures.marks away.1 away.0 quiet.1)
      | else-not-present-alert w ↦
          subst (λ (m : Marked). IsNearing on shows waits first next m (suc i)) (sym w.near-is)
          (nearing-kept on shows waits first now next near i primary has takes none was.nearing)
    ] in
    let found = c.next_or-alert-in-loop-alert.ensures in
    record {
      most = found.end;
      asks = λ inside. sym (ap (λ (m : Marked). is_marked m c.next_or-alert-in-loop-alert.result) keeps) ∙ found.marked inside;
      places = stays ∙ was.places;
      moved_places = c.star.ensures.room ∙ was.moved_places;
      moved = λ a off.
          let here = c.star.ensures.moved a off in
          let before = was.moved a here.0 in
          (before.0, here.1 ∙ before.1);
      half =
          half-on b on first asked next (suc i) c.next_or-alert-in-loop-alert.result (omega (arith, found.from))
          (λ a from below. sym (ap (λ (m : Marked). is_marked m a) keeps) ∙ found.none a (omega (arith, from)) below) half;
      nearing = nearing-on on shows waits first next c.if-not-present-alert.near (suc i) c.next_or-alert-in-loop-alert.result (omega (arith, found.from)) nearing;
    }

pub returns-clause-stands : goal.returns-clause-stands
returns-clause-stands c = λ active k was tells still.
    let b = the_book c.args.book.now in
    let few = many-alerts c.args.book.now in
    let end : c.loop-alert.alert ≡ length b.alerts = omega (arith, c.loop-alert-test.false, c.loop-alert.invariant.most, c.requires.active_places, few) in
    taken-stands b active c.args.active.now c.args.self.now c.loop-alert.self c.ask.new.asked c.args.moved.now k was
    (λ a within. tells a (omega (arith, within, few))) (λ a within off. still a (omega (arith, within, few)) off)
    (λ a off. subst (λ n. IsUnasked (secondaries_of b) c.args.moved.now n a) (sym few) (c.ask.ensures.asked a off))
    (subst (λ n. IsHalfTaken b c.args.active.now c.args.self.now c.loop-alert.self c.ask.new.asked n) end c.loop-alert.invariant.half)

pub returns-clause-turned : goal.returns-clause-turned
returns-clause-turned c =
    let end : c.loop-alert.alert ≡ length c.args.book.now.alerts.items = omega (arith, c.loop-alert-test.false, c.loop-alert.invariant.most, c.requires.active_places) in
    let tells = c.loop-alert.invariant.nearing.turned in
    (λ e a within. tells.0 e a (omega (arith, within, end)), λ same. tells.1 (λ a below. same a (omega (arith, below, end))))
