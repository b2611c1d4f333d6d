-- Who listens to the mailboxes of a book.
use Rattle.std.specs.Prelude.{◌≡◌, ℕ, suc, ◌*◌, ◌/◌, ◌<◌, ◌≤◌, ◌==◌, Bool, true, List, length, get_or, Option, Some, None, All}
use Rattle.std.specs.List.{list_any}
use Rattle.ecam_spec.specs.Book.{Book}
use Rattle.param_table.specs.Asked.{is_asked_at}
use Rattle.param_table.specs.Words.{mask_of, modes_of}
use Rattle.param_table.specs.HeldValues.{unused, hearers_of}
use Rattle.param_table.specs.Rules.{AreRules, AreRoutes, openers}
use Rattle.param_table.specs.declared.mailbox.Mailbox.{Mailbox}
use Rattle.param_table.specs.declared.mailbox.Listener.{Listener}
use Rattle.param_table.specs.declared.rules.Rule.{Rule}
use Rattle.param_table.specs.declared.routing.Routing.{Routing}

-- the source with a rule at a place, as a listener
abbrev pub listener_of : ℕ → Rule → Listener
listener_of place r =
    record { mask = mask_of r.kind r.low; stale = r.stale; place = place; param = place / 3; modes = modes_of r.kind }

-- it listens to the mailbox, and its parameter is asked for
pub record IsListener (is_asked : ℕ → Bool) (rules : List (Option Rule)) (mailbox : ℕ) (l : Listener) : Type 0 where
  pub rule : Rule
  pub there : get_or rules l.place None ≡ Some rule
  pub own : rule.mailbox ≡ mailbox
  pub is : l ≡ listener_of l.place rule
  pub asked : is_asked l.place ≡ true

-- they are those who listen to the mailbox: each source that has it and whose parameter is asked for
pub record AreListeners (is_asked : ℕ → Bool) (rules : List (Option Rule)) (mailbox : ℕ) (listeners : List Listener) : Type 0 where
  pub each : All (IsListener is_asked rules mailbox) listeners
  pub all : (q : ℕ) (r : Rule) → get_or rules q None ≡ Some r → r.mailbox ≡ mailbox → is_asked q ≡ true
      → list_any (λ (l : Listener). l.place == q) listeners ≡ true

-- the mailbox tells its listeners
pub record Tells (is_asked : ℕ → Bool) (rules : List (Option Rule)) (listeners : List Listener) (mailbox : ℕ) (m : Mailbox) : Type 0 where
  pub order : m.hearers.first ≤ m.hearers.end
  pub within : m.hearers.end ≤ length listeners
  pub are : AreListeners is_asked rules mailbox (hearers_of listeners m)
  pub soonest : All (λ (l : Listener). m.hearers.soonest ≤ l.stale) (hearers_of listeners m)

-- the words of a book go by this routing to these mailboxes, which tell the sources of the parameters that are asked for
pub record AreRouted (b : Book) (routing : Routing) (mailboxes : List Mailbox) : Type 0 where
  pub rules : AreRules b.parameters (3 * length b.parameters) routing.rules.items.items
  pub routes : AreRoutes b.parameters (3 * length b.parameters) routing.routes.items.items
  pub count : length mailboxes ≡ suc (openers b.parameters (3 * length b.parameters))
  pub tells : (m : ℕ) → m < length mailboxes → Tells (is_asked_at b) routing.rules.items.items routing.listeners.items.items m (get_or mailboxes m unused)
