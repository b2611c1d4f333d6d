use Rattle.std.proofs.Common.{◌≡◌, ℕ, ◌<◌, ◌≤◌, ◌==◌, ◌&&◌, ◌||◌, set, slice_index, length, get_or, List, Option, ap, sym, subst, ◌∙◌, arith, inl, inr}
use Rattle.std.specs.List.{list_any}
use Rattle.std.proofs.lemmas.List.{length-set}
use Rattle.std.proofs.lemmas.Bool.{cases_Bool}
use Rattle.ecam_spec.specs.Book.{Book}
use Rattle.book_model.specs.Sealed.{the_book}
use Rattle.wakes.specs.Due.{never}
use Rattle.wakes.specs.Marks.{is_marked, room}
use Rattle.param_table.specs.declared.mailbox.Listener.{Listener}
use Rattle.param_table.specs.declared.mailbox.Mailbox.{Mailbox}
use Rattle.param_table.specs.declared.rules.Rule.{Rule}
use Rattle.param_table.specs.Asked.{is_asked_at}
use Rattle.param_table.specs.HeldValues.{unused, due_at, hearers_of, held_for, is_ending, mailbox_at, received_at}
use Rattle.param_table.specs.HeldState.{AreDue, AreListed, IsNextLook}
use Rattle.param_table.proofs.Hearers.{are_listed}
use Rattle.param_table.proofs.Looking.{looked_due, looked_ending, looked_others}
use Rattle.param_table.proofs.Steps.{come_by, fewer, set_set}
use Rattle.param_table.proofs.Tables.{mailbox_within}
use Rattle.param_table.proofs.held.Held.look_at_due.Goals as goal
use Rattle.param_table.proofs.held.Held.look_at_due.Goals.{After-deref, After-look}

abbrev book : After-deref → Book
book c = the_book c.args._book.now

abbrev boxes : After-deref → List Mailbox
boxes c = c.args.self.now.mailboxes.items.items

within : (c : After-deref) → c.in-Some.mailbox < length (boxes c)
within c = omega (arith, c.in-Some.ensures.first.0, c.loop-mailbox.invariant.count, c.requires.fits.dues)

same : (c : After-deref) → get_or c.loop-mailbox.self.mailboxes.items.items c.in-Some.mailbox unused ≡ get_or (boxes c) c.in-Some.mailbox unused
same c = ap (λ v. get_or v.items.items c.in-Some.mailbox unused) c.loop-mailbox.invariant.mailboxes

pub look-requires-clause-mailbox : goal.look-requires-clause-mailbox
look-requires-clause-mailbox c = omega (arith, within c, ap (λ v. length v.items.items) c.loop-mailbox.invariant.mailboxes)

pub look-requires-clause-dues : goal.look-requires-clause-dues
look-requires-clause-dues c = omega (arith, c.in-Some.ensures.first.0, ap length c.in-Some.ensures.keys, length-set c.loop-mailbox.self.dues c.in-Some.mailbox never)

pub look-requires-clause-listed : goal.look-requires-clause-listed
look-requires-clause-listed c =
    let many = room c.loop-mailbox.self.changed in
    subst (λ ls. AreListed ls many (get_or c.loop-mailbox.self.mailboxes.items.items c.in-Some.mailbox unused)) (sym c.deref.ensures.value)
    (subst (AreListed c.args.routing.now.listeners.items.items many) (sym (same c))
    (are_listed (book c) c.args.routing.now (boxes c) c.in-Some.mailbox c.requires.routed (within c) many (omega (arith, c.loop-mailbox.invariant.room, c.requires.fits.room))))

module _ (c : After-look) where
  abbrev d : After-deref
  d = c.before

  abbrev rules : List (Option Rule)
  rules = c.args.routing.now.rules.items.items

  abbrev dues : List ℕ
  dues = c.loop-mailbox.self.dues

  abbrev m : ℕ
  m = c.in-Some.mailbox

  abbrev box : Mailbox
  box = get_or (boxes d) m unused

  abbrev hearers : List Listener
  hearers = hearers_of c.args.routing.now.listeners.items.items box

  -- when it is looked at next
  abbrev due : ℕ
  due = c.look.ensures.dues.0

  put : c.look.new.self.dues ≡ set dues m due
  put = c.look.ensures.dues.1 ∙ ap (λ ds. set ds m due) c.in-Some.ensures.keys ∙ set_set dues m never due

  next : IsNextLook c.args.clock box hearers due
  next = subst (λ b. IsNextLook c.args.clock b (hearers_of c.args.routing.now.listeners.items.items b) due) (same d)
      (subst (λ ls. IsNextLook c.args.clock (get_or c.loop-mailbox.self.mailboxes.items.items m unused) (hearers_of ls (get_or c.loop-mailbox.self.mailboxes.items.items m unused)) due) c.deref.ensures.value c.look.ensures.dues.2)

  abbrev Marks : List Listener → Mailbox → ℕ → Type 0
  Marks ls b p = is_marked c.look.new.self.changed p ≡ (list_any (λ (l : Listener). p == l.param && is_ending c.args.clock (held_for b l.stale)) (hearers_of ls b) || is_marked c.loop-mailbox.self.changed p)

  marks : (p : ℕ) → Marks c.args.routing.now.listeners.items.items box p
  marks p = subst (λ b. Marks c.args.routing.now.listeners.items.items b p) (same d)
      (subst (λ ls. Marks ls (get_or c.loop-mailbox.self.mailboxes.items.items m unused) p) c.deref.ensures.value (c.look.ensures.marks p))

pub loop-mailbox-smaller : goal.loop-mailbox-smaller
loop-mailbox-smaller c =
    let first = c.in-Some.ensures.first in
    subst (λ ds. come_by c.args.clock ds < come_by c.args.clock (dues c)) (sym (put c))
    (fewer c.args.clock (dues c) (m c) (due c) first.0 (subst (λ t. slice_index (dues c) (m c) ≤ t) c.from.ensures first.1) (next c).later)

pub loop-mailbox-preserved : goal.loop-mailbox-preserved
loop-mailbox-preserved c =
    let inv = c.loop-mailbox.invariant in
    let there = c.in-Some.ensures.first.0 in
    let old = c.loop-mailbox.self.changed in
    let new = c.look.new.self.changed in
    let x = received_at (rules c) (boxes (d c)) in
    record {
      mailboxes = c.look.ensures.mailboxes ∙ inv.mailboxes;
      room = c.look.ensures.room ∙ inv.room;
      summed = c.look.ensures.summed inv.summed;
      count = ap length (put c) ∙ length-set (dues c) (m c) (due c) ∙ inv.count;
      due = λ will. subst (λ ds. AreDue (is_asked_at (book (d c))) c.args.clock x (due_at (rules c) ds)) (sym (put c))
          (looked_due (book (d c)) c.args.routing.now (boxes (d c)) (m c) c.requires.routed (within (d c)) c.args.clock c.requires.later (dues c) there (due c) (next c) (inv.due will));
      ending = λ will q asked off ends. subst (λ ds. due_at (rules c) ds q ≤ c.args.clock) (sym (put c))
          (looked_ending (book (d c)) c.args.routing.now (boxes (d c)) (m c) c.requires.routed (within (d c)) c.args.clock c.requires.later (dues c) there (due c) (next c) old new (marks c) (inv.ending will) q asked off ends);
      others = λ p off none.
          looked_others (book (d c)) c.args.routing.now (boxes (d c)) (m c) c.requires.routed (within (d c)) c.args.clock c.requires.later (dues c) there (due c) (next c) old new (marks c) p (inv.others p off none) none;
    }

pub returns-clause-summed : goal.returns-clause-summed
returns-clause-summed c = c.loop-mailbox.invariant.summed

pub returns-clause-marks : goal.returns-clause-marks
returns-clause-marks c = λ will q asked off.
    let rules = c.args.routing.now.rules.items.items in
    let boxes = c.args.self.now.mailboxes.items.items in
    elim (cases_Bool (is_ending c.args.clock (received_at rules boxes q))) [
      | inl on ↦
          let there = mailbox_within (the_book c.args._book.now) c.args.routing.now boxes c.requires.routed q in
          let late = c.in_default.ensures.first (mailbox_at rules q) (omega (arith, there, c.loop-mailbox.invariant.count, c.requires.fits.dues)) in
          absurd (let w : ⊥ = omega (arith, late, c.from.ensures, c.loop-mailbox.invariant.ending will q asked off on) in w)
      | inr off_now ↦ off_now
    ]
