use Rattle.std.proofs.Common.{◌≡◌, ℕ, suc, ◌+◌, ◌≤◌, false, length, get_or, List, None, refl, sym, ap, ◌∙◌, subst, add-one, arith}
use Rattle.std.proofs.lemmas.Bool.{ne_eqb}
use Rattle.ecam_spec.specs.Book.{Parameter}
use Rattle.book_model.specs.Sealed.{the_book}
use Rattle.wakes.specs.Marks.{is_marked, room}
use Rattle.param_table.specs.declared.held.Held.{Held}
use Rattle.param_table.specs.declared.routing.Routing.{Routing}
use Rattle.param_table.specs.declared.table.Params.{Params}
use Rattle.param_table.specs.HeldValues.{due_at, is_ending, received_at, unused}
use Rattle.param_table.specs.HeldState.{AreSummed, IsDue, WillLook}
use Rattle.param_table.specs.Asked.{is_asked_at}
use Rattle.param_table.specs.Routes.{AreRouted}
use Rattle.param_table.specs.TableState.{HeldFits, ParamsFit, ParamsStand, received_by}
use Rattle.param_table.proofs.ByRule.{by_none, no_rule_past}
use Rattle.param_table.proofs.Summed.{unmarked-summed}
use Rattle.param_table.proofs.Tables.{WordsStand, moment, clock_back, back_fits, will_look, words_stand}
use Rattle.param_table.proofs.table.Params.tick.Goals as goal
use Rattle.param_table.proofs.table.Params.tick.Goals.{After-forget_changes-arg-1, After-look_at_due, then-self, else-self}

-- the table by a routing, holding this when the clock shows that
abbrev holding : ℕ → Held → Routing → Params
holding clock held routing = record { clock = clock; held = held; routing = routing }

-- the table fits once the clock is set back, where it has to be
mid_fits : (c : After-forget_changes-arg-1) → ParamsFit (the_book c.args._book.now) c.if-self.self
mid_fits c = elim c.if-self.branch [
  | then-self w ↦
      let set = w.set_clock_back.new.self in
      let was = w.set_clock_back.ensures in
      subst (ParamsFit (the_book c.args._book.now)) (sym w.self-is)
      (back_fits (the_book c.args._book.now) c.args.self.now set w.if-self.true was.clock was.routing was.mailboxes was.changed was.busy was.count c.requires)
  | else-self w ↦ subst (ParamsFit (the_book c.args._book.now)) (sym w.self-is) c.requires
]

-- a moment later it still does, where the mailboxes are the same and as many are looked at
later_fits : (params : List Parameter) (clock : ℕ) (old new : Held) → HeldFits params clock old → new.mailboxes ≡ old.mailboxes → room new.changed ≡ room old.changed
    → length new.dues ≡ length old.dues → ((p : ℕ) → length params ≤ p → is_marked new.changed p ≡ false) → AreSummed new.changed new.busy → HeldFits params (clock + 1) new
later_fits params clock old new fits same marks dues within summed = record {
  room = marks ∙ fits.room;
  within = within;
  busy = summed;
  dues = dues ∙ fits.dues ∙ sym (ap (λ v. length v.items.items) same);
  early = λ m. omega (arith, ap (λ v. (get_or v.items.items m unused).after) same, fits.early m);
}

pub forget_changes-requires : goal.forget_changes-requires
forget_changes-requires c = (mid_fits c).held.busy

pub look_at_due-requires-clause-routed : goal.look_at_due-requires-clause-routed
look_at_due-requires-clause-routed c =
    subst (λ r. AreRouted (the_book c.args._book.now) r c.forget_changes.new.self.mailboxes.items.items) (sym c.table.ensures)
    (subst (λ v. AreRouted (the_book c.args._book.now) c.if-self.self.routing v.items.items) (sym c.forget_changes.ensures.mailboxes) (mid_fits c.before.before.before.before).routed)

pub look_at_due-requires-clause-fits : goal.look_at_due-requires-clause-fits
look_at_due-requires-clause-fits c =
    later_fits (the_book c.args._book.now).parameters c.if-self.self.clock c.if-self.self.held c.forget_changes.new.self (mid_fits c.before.before.before.before).held
    c.forget_changes.ensures.mailboxes c.forget_changes.ensures.room (ap length c.forget_changes.ensures.dues) (λ p past. c.forget_changes.ensures.none p)
    (unmarked-summed c.forget_changes.new.self.changed c.forget_changes.new.self.busy c.forget_changes.ensures.none)

fits_after : (c : After-look_at_due)
    → ParamsFit (the_book c.args._book.now) (record { clock = c.if-self.self.clock + 1; held = c.look_at_due.new.self; routing = c.if-self.self.routing })
fits_after c =
    let fits = mid_fits c.before.before.before.before.before in
    let same = c.look_at_due.ensures.mailboxes ∙ c.forget_changes.ensures.mailboxes in
    record {
      sound = fits.sound;
      routed = subst (λ v. AreRouted (the_book c.args._book.now) c.if-self.self.routing v.items.items) (sym same) fits.routed;
      held = later_fits (the_book c.args._book.now).parameters c.if-self.self.clock c.if-self.self.held c.look_at_due.new.self fits.held same
          (c.look_at_due.ensures.room ∙ c.forget_changes.ensures.room) (c.look_at_due.ensures.dues ∙ ap length c.forget_changes.ensures.dues)
          (λ p past. c.look_at_due.ensures.others p (c.forget_changes.ensures.none p) (λ q row.
          ap (is_ending (c.if-self.self.clock + 1)) (by_none c.table.result.now.rules.items.items c.forget_changes.new.self.mailboxes.items.items q
          (ap (λ (r : Routing). get_or r.rules.items.items q None) c.table.ensures ∙ no_rule_past (the_book c.args._book.now).parameters c.if-self.self.routing.rules.items.items fits.routed.rules q p row past))
          ∙ ne_eqb 0 (c.if-self.self.clock + 1) (λ e. absurd (omega (arith, e)))))
          c.look_at_due.ensures.summed;
    }

pub returns-clause-fits : goal.returns-clause-fits
returns-clause-fits c = fits_after c

pub returns-clause-stands : goal.returns-clause-stands
returns-clause-stands c = λ words k none stands.
    let b = the_book c.args._book.now in
    let now = c.if-self.self in
    let is_asked = is_asked_at b in
    let before : WordsStand b words k now = elim c.if-self.branch [
      | then-self w ↦
          let set = w.set_clock_back.new.self in
          let was = w.set_clock_back.ensures in
          subst (WordsStand b words k) (sym w.self-is)
          (clock_back b words k c.args.self.now set (back_fits b c.args.self.now set w.if-self.true was.clock was.routing was.mailboxes was.changed was.busy was.count c.requires)
          w.if-self.true was.clock was.routing was.mailboxes was.soon stands)
      | else-self w ↦ subst (WordsStand b words k) (sym w.self-is) (words_stand b words k c.args.self.now stands)
    ] in
    let mid = holding now.clock now.held c.table.result.now in
    let stood : WordsStand b words k mid = subst (λ r. WordsStand b words k (holding now.clock now.held r)) (sym c.table.ensures) before in
    let x = received_by mid in
    let rules = mid.routing.rules.items.items in
    let kept : (q : ℕ) → received_at rules c.forget_changes.new.self.mailboxes.items.items q ≡ x q = λ q.
    ap (λ v. received_at rules v.items.items q) c.forget_changes.ensures.mailboxes in
    let dues = due_at rules c.forget_changes.new.self.dues in
    let will : WillLook is_asked (mid.clock + 1) x dues =
    subst (λ t. WillLook is_asked t x dues) (sym (add-one mid.clock)) (will_look is_asked mid.clock x dues (λ q asked. subst (λ ds. IsDue mid.clock (x q) (due_at rules ds q)) (sym c.forget_changes.ensures.dues) (stood.due q asked))) in
    let looks : WillLook is_asked (mid.clock + 1) (received_at rules c.forget_changes.new.self.mailboxes.items.items) dues = record {
      due = λ q asked. subst (λ r. IsDue (mid.clock + 1) r (dues q)) (sym (kept q)) (will.due q asked);
      ending = λ q asked ends. will.ending q asked (ap (is_ending (mid.clock + 1)) (sym (kept q)) ∙ ends);
    } in
    let later = holding (now.clock + 1) c.look_at_due.new.self in
    subst (λ r. ParamsStand b words (suc k) (later r)) c.table.ensures
    (moment b words k mid (later c.table.result.now) (subst (λ r. ParamsFit b (later r)) (sym c.table.ensures) (fits_after c)) none (add-one mid.clock) refl
    (c.look_at_due.ensures.mailboxes ∙ c.forget_changes.ensures.mailboxes)
    (λ q asked. subst (λ r. IsDue (mid.clock + 1) r (due_at rules c.look_at_due.new.self.dues q)) (kept q) (c.look_at_due.ensures.due looks q asked))
    (λ q asked off. ap (is_ending (mid.clock + 1)) (sym (kept q)) ∙ c.look_at_due.ensures.marks looks q asked off)
    (λ p calm. c.look_at_due.ensures.others p (c.forget_changes.ensures.none p) (λ q row. ap (is_ending (mid.clock + 1)) (kept q) ∙ calm q row)) stood)
