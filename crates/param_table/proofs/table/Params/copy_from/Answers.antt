use Rattle.std.proofs.Common.{refl, subst}
use Rattle.param_table.specs.HeldState.{CopiedWords}
use Rattle.param_table.specs.declared.table.Params.{Params}
use Rattle.param_table.proofs.Tables.{copied, copied-fits}
use Rattle.param_table.proofs.table.Params.copy_from.Goals as goal

pub returns-clause-fits : goal.returns-clause-fits
returns-clause-fits c = λ b fits also.
    let was = c.args.self.now in
    let other = c.args.other.now in
    let new : Params = record { clock = other.clock; held = record { mailboxes = c.copy_words.new.self.mailboxes; changed = c.copy_from.new.self; busy = other.held.busy; dues = c.copy_from-2.new.self }; routing = was.routing } in
    let words : CopiedWords was.held.mailboxes.items.items other.held.mailboxes.items.items new.held.mailboxes.items.items =
    subst (λ l. CopiedWords was.held.mailboxes.items.items l new.held.mailboxes.items.items) c.deref.ensures.value c.copy_words.ensures.mailboxes in
    copied-fits b was other new fits also refl refl words c.copy_from.ensures refl c.copy_from-2.ensures

pub returns-clause-stands : goal.returns-clause-stands
returns-clause-stands c = λ b words k fits stands.
    let was = c.args.self.now in
    let other = c.args.other.now in
    let new : Params = record { clock = other.clock; held = record { mailboxes = c.copy_words.new.self.mailboxes; changed = c.copy_from.new.self; busy = other.held.busy; dues = c.copy_from-2.new.self }; routing = was.routing } in
    let copies : CopiedWords was.held.mailboxes.items.items other.held.mailboxes.items.items new.held.mailboxes.items.items =
    subst (λ l. CopiedWords was.held.mailboxes.items.items l new.held.mailboxes.items.items) c.deref.ensures.value c.copy_words.ensures.mailboxes in
    copied b words k was other new fits refl refl copies c.copy_from.ensures refl c.copy_from-2.ensures stands
