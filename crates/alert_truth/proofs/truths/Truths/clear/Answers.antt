use Rattle.std.proofs.Common.{rules, ◌≡◌, ℕ, false, not, ◌&&◌, Option, None, get_or, sym, length, replicate, vec_len, refl, ap, ◌∙◌, arith}
use Rattle.std.proofs.lemmas.List.{length-replicate, get_or-replicate}
use Rattle.std.specs.Prelude.{is_some}
use Rattle.wakes.specs.Due.{never}
use Rattle.alert_truth.specs.Alerts.{active}
use Rattle.alert_truth.proofs.Blank.{blank-at}
use Rattle.alert_truth.proofs.Nearing.{none-near}
use Rattle.alert_truth.proofs.Stepping.{nothing-stands}
use Rattle.alert_truth.proofs.truths.Truths.clear.Goals as goal

pub returns-clause-fits : goal.returns-clause-fits
returns-clause-fits c = λ b fits.
    let old = c.args.self.now in
    let count = length b.alerts in
    let one : vec_len old.since ≡ count = omega (arith, fits.since, old.since.ok.0) in
    let two : vec_len old.present ≡ count = omega (arith, fits.present, old.present.ok.0) in
    let three : vec_len old.active ≡ count = omega (arith, fits.active, old.active.ok.0) in
    let four : vec_len old.waiting ≡ count = omega (arith, fits.waiting, old.waiting.ok.0) in
    let since : c.fill.new.self.items ≡ replicate count None = c.fill.ensures.items (λ y same. search rules) ∙ ap (λ n. replicate n None) one in
    let now : c.fill-2.new.self.items ≡ replicate count false = c.fill-2.ensures.items (λ y same. search rules) ∙ ap (λ n. replicate n false) two in
    let here : c.fill-3.new.self.items ≡ replicate count false = c.fill-3.ensures.items (λ y same. search rules) ∙ ap (λ n. replicate n false) three in
    let waits : c.fill-4.new.self.items ≡ replicate count false = c.fill-4.ensures.items (λ y same. search rules) ∙ ap (λ n. replicate n false) four in
    record {
      since = ap length since ∙ length-replicate count None;
      present = ap length now ∙ length-replicate count false;
      active = ap length here ∙ length-replicate count false;
      waiting = ap length waits ∙ length-replicate count false;
      near_room = c.clear-3.ensures.room ∙ fits.near_room;
      turned_room = c.clear-4.ensures.room ∙ fits.turned_room;
      due_room = fits.due_room;
      dues = ap length c.clear-2.ensures ∙ length-replicate (length old.dues) never ∙ fits.dues;
      room = c.clear.ensures.room ∙ fits.room;
      restless = λ a within.
          c.clear.ensures.none a
          ∙ sym (ap (λ (o : Option ℕ). is_some o && not (get_or c.fill-3.new.self.items a false)) (ap (λ xs. get_or xs a None) since ∙ get_or-replicate count a None None within));
      near =
          none-near _ (λ a. ap (λ xs. get_or xs a false) now ∙ blank-at count a false) (λ a. ap (λ xs. get_or xs a false) here ∙ blank-at count a false)
          (λ a. ap (λ xs. get_or xs a false) waits ∙ blank-at count a false) (c.clear-5.ensures.away b fits.stars);
      stars = c.clear-5.ensures.fits b fits.stars;
    }

pub returns-clause-stands : goal.returns-clause-stands
returns-clause-stands c = λ b conditions phases fits.
    let old = c.args.self.now in
    let count = length b.alerts in
    let one : vec_len old.since ≡ count = omega (arith, fits.since, old.since.ok.0) in
    let two : vec_len old.present ≡ count = omega (arith, fits.present, old.present.ok.0) in
    let three : vec_len old.active ≡ count = omega (arith, fits.active, old.active.ok.0) in
    let four : vec_len old.waiting ≡ count = omega (arith, fits.waiting, old.waiting.ok.0) in
    nothing-stands b conditions phases _ count refl (returns-clause-fits c b fits) refl (c.clear-2.ensures ∙ ap (λ n. replicate n never) fits.dues)
    (c.fill.ensures.items (λ y same. search rules) ∙ ap (λ n. replicate n None) one)
    (c.fill-2.ensures.items (λ y same. search rules) ∙ ap (λ n. replicate n false) two)
    (c.fill-3.ensures.items (λ y same. search rules) ∙ ap (λ n. replicate n false) three)
    (c.fill-4.ensures.items (λ y same. search rules) ∙ ap (λ n. replicate n false) four)
    (c.clear-5.ensures.stands b (active b conditions phases) fits.stars) refl
