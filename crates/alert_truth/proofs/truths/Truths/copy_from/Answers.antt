use Rattle.std.proofs.Common.{◌≡◌, false, not, ◌&&◌, None, get_or, length, refl, sym, ap, ◌∙◌}
use Rattle.std.specs.Prelude.{is_some}
use Rattle.wakes.specs.Marks.{is_marked, room}
use Rattle.alert_truth.specs.Alerts.{active}
use Rattle.alert_truth.specs.declared.truths.Truths.{Truths}
use Rattle.alert_truth.proofs.Nearing.{near-away, settled-near}
use Rattle.alert_truth.proofs.Stepping.{same-stands}
use Rattle.alert_truth.proofs.truths.Truths.copy_from.Goals as goal

pub returns-clause-fits : goal.returns-clause-fits
returns-clause-fits c = λ b own fits.
    let other = c.args.other.now in
    let since : c.copy_from_slice.new.self.items ≡ other.since.items = c.copy_from_slice.ensures.items ∙ c.deref.ensures.value in
    let now : c.copy_from_slice-2.new.self.items ≡ other.present.items = c.copy_from_slice-2.ensures.items ∙ c.deref-2.ensures.value in
    let here : c.copy_from_slice-3.new.self.items ≡ other.active.items = c.copy_from_slice-3.ensures.items ∙ c.deref-3.ensures.value in
    let waits : c.copy_from_slice-4.new.self.items ≡ other.waiting.items = c.copy_from_slice-4.ensures.items ∙ c.deref-4.ensures.value in
    record {
      since = ap length since ∙ fits.since;
      present = ap length now ∙ fits.present;
      active = ap length here ∙ fits.active;
      waiting = ap length waits ∙ fits.waiting;
      near_room = ap room c.copy_from-3.ensures ∙ fits.near_room;
      due_room = own.due_room;
      turned_room = ap room c.copy_from-4.ensures ∙ fits.turned_room;
      room = ap room c.copy_from.ensures ∙ fits.room;
      dues = ap length c.copy_from-2.ensures ∙ fits.dues;
      restless = λ a within.
          ap (λ ws. is_marked ws a) c.copy_from.ensures ∙ fits.restless a within
          ∙ sym (ap (λ xs. is_some (get_or xs a None) && not (get_or c.copy_from_slice-3.new.self.items a false)) since
          ∙ ap (λ xs. is_some (get_or other.since.items a None) && not (get_or xs a false)) here);
      near =
          settled-near _
          (λ a told. ap (λ ws. is_marked ws a) c.copy_from-3.ensures ∙ fits.near.present a (sym (ap (λ xs. get_or xs a false) now) ∙ told))
          (λ a told. ap (λ ws. is_marked ws a) c.copy_from-3.ensures ∙ fits.near.active a (sym (ap (λ xs. get_or xs a false) here) ∙ told))
          (λ a told. ap (λ ws. is_marked ws a) c.copy_from-3.ensures ∙ fits.near.waiting a (sym (ap (λ xs. get_or xs a false) waits) ∙ told))
          (λ a off. c.copy_from-5.ensures.away b own.stars a (near-away other fits.near a (sym (ap (λ ws. is_marked ws a) c.copy_from-3.ensures) ∙ off)));
      stars = c.copy_from-5.ensures.fits b own.stars fits.stars;
    }

pub returns-clause-stands : goal.returns-clause-stands
returns-clause-stands c = λ b conditions phases k own stands.
    let other = c.args.other.now in
    let new : Truths = record { moments = other.moments; since = c.copy_from_slice.new.self; present = c.copy_from_slice-2.new.self; active = c.copy_from_slice-3.new.self; waiting = c.copy_from_slice-4.new.self; restless = c.copy_from.new.self; dues = c.copy_from-2.new.self; due = c.args.self.now.due; near = c.copy_from-3.new.self; turned = c.copy_from-4.new.self; stars = c.copy_from-5.new.self; changing = other.changing; changed = other.changed } in
    same-stands b conditions phases k other new (returns-clause-fits c b own stands.fits) refl c.copy_from-2.ensures
    (c.copy_from_slice.ensures.items ∙ c.deref.ensures.value)
    (c.copy_from_slice-2.ensures.items ∙ c.deref-2.ensures.value)
    (c.copy_from_slice-3.ensures.items ∙ c.deref-3.ensures.value)
    (c.copy_from_slice-4.ensures.items ∙ c.deref-4.ensures.value)
    (c.copy_from-5.ensures.stands b (active b conditions phases) k own.stars stands.fits.stars stands.stars) refl c.copy_from-4.ensures refl c.copy_from-5.ensures.turned stands
