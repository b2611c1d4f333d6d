use Rattle.std.proofs.Common.{◌≡◌, ℕ, length, get_or, sym, ap, ◌∙◌, arith}
use Rattle.std.proofs.lemmas.List.{length-replicate, length-map}
use Rattle.ecam_spec.specs.Book.{Book}
use Rattle.wakes.specs.Marks.{room}
use Rattle.param_table.specs.declared.mailbox.Mailbox.{Mailbox}
use Rattle.param_table.specs.declared.table.Params.{Params}
use Rattle.param_table.specs.HeldValues.{emptied, unused}
use Rattle.param_table.specs.TableState.{ParamsFit}
use Rattle.param_table.proofs.Delivery.{routed_same}
use Rattle.param_table.proofs.Summed.{unmarked-summed}
use Rattle.param_table.proofs.Tables.{start, get_or-emptied}
use Rattle.param_table.proofs.table.Params.clear.Goals as goal
use Rattle.param_table.proofs.table.Params.clear.Goals.{After-clear-2}

abbrev cleared : After-clear-2 → Params
cleared c = record {
  clock = 0;
  held = record { mailboxes = c.forget_words.new.self.mailboxes; changed = c.clear.new.self; busy = 0; dues = c.clear-2.new.self };
  routing = c.args.self.now.routing;
}

empty : (c : After-clear-2) (m : ℕ) → get_or (cleared c).held.mailboxes.items.items m unused ≡ emptied (get_or c.args.self.now.held.mailboxes.items.items m unused)
empty c m = ap (λ l. get_or l m unused) c.forget_words.ensures.mailboxes ∙ get_or-emptied c.args.self.now.held.mailboxes.items.items m

many : (c : After-clear-2) → length (cleared c).held.mailboxes.items.items ≡ length c.args.self.now.held.mailboxes.items.items
many c = ap length c.forget_words.ensures.mailboxes ∙ length-map c.args.self.now.held.mailboxes.items.items emptied

kept : (c : After-clear-2) (b : Book) → ParamsFit b c.args.self.now → ParamsFit b (cleared c)
kept c b fits = record {
  sound = fits.sound;
  routed = routed_same b c.args.self.now.routing c.args.self.now.held.mailboxes.items.items (cleared c).held.mailboxes.items.items
      (many c) (λ m less. ap (λ (x : Mailbox). x.hearers) (empty c m)) fits.routed;
  held = record {
    room = c.clear.ensures.room ∙ ap room c.forget_words.ensures.changed ∙ fits.held.room;
    within = λ p past. c.clear.ensures.none p;
    busy = unmarked-summed c.clear.new.self 0 c.clear.ensures.none;
    dues = ap length c.clear-2.ensures ∙ length-replicate _ _ ∙ ap length c.forget_words.ensures.dues ∙ fits.held.dues ∙ sym (many c);
    early = λ m. omega (arith, ap (λ (x : Mailbox). x.after) (empty c m));
  };
}

pub returns-clause-fits : goal.returns-clause-fits
returns-clause-fits c = λ b fits. kept c b fits

pub returns-clause-stands : goal.returns-clause-stands
returns-clause-stands c = λ b words fits none.
    start b words (cleared c) (kept c b fits) none (λ m. ap (λ (x : Mailbox). x.after) (empty c m)) c.clear.ensures.none
