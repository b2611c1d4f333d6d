-- When each mailbox of a table is looked at, and what words leave.
use Rattle.std.specs.Prelude.{◌≡◌, ◌≢◌, ℕ, ◌+◌, ◌/◌, ◌%◌, ◌<◌, ◌≤◌, Bool, true, false, List, length, map, get_or, Option, Some, None, All}
use Rattle.std.specs.Int.{bit_at}
use Rattle.ecam_spec.specs.Book.{Source, Parameter}
use Rattle.wakes.specs.Marks.{is_marked}
use Rattle.book_model.specs.SourcePlaces.{parameter_with, source_at}
use Rattle.param_table.specs.HeldValues.{unused, at_start, given, renewed, is_ending, held_for, received_at, due_at, hearers_of}
use Rattle.param_table.specs.declared.received.Received.{Received}
use Rattle.param_table.specs.declared.mailbox.Mailbox.{Mailbox}
use Rattle.param_table.specs.declared.mailbox.Listener.{Listener}
use Rattle.param_table.specs.declared.rules.Rule.{Rule}
use Rattle.param_table.specs.declared.held.Held.{Held}

-- no word came later than now
abbrev pub AreEarly : ℕ → List Mailbox → Type 0
AreEarly clock mailboxes = (m : ℕ) → (get_or mailboxes m unused).after ≤ clock + 1

-- the listeners of a mailbox stand in the list, and belong to parameters of which there are so many
pub record AreListed (listeners : List Listener) (param_count : ℕ) (m : Mailbox) : Type 0 where
  pub order : m.hearers.first ≤ m.hearers.end
  pub within : m.hearers.end ≤ length listeners
  pub params : All (λ (l : Listener). l.param < param_count) (hearers_of listeners m)
  pub soonest : All (λ (l : Listener). m.hearers.soonest ≤ l.stale) (hearers_of listeners m)

-- each word with a marked parameter has its bit in the summary
unfoldable pub AreSummed : List ℕ → ℕ → Type 0
AreSummed marks busy = (p : ℕ) → is_marked marks p ≡ true → bit_at busy (p / 64 % 64) ≡ 1

-- the words of other mailboxes were taken over
pub record CopiedWords (old others new : List Mailbox) : Type 0 where
  pub count : length new ≡ length old
  pub each : (m : ℕ) → m < length old → get_or new m unused
      ≡ record (get_or others m unused) { hearers = (get_or old m unused).hearers }

-- a fresh word is looked at by the time when it is no longer fresh
abbrev pub IsDue : ℕ → Received → ℕ → Type 0
IsDue clock r key = clock < r.end → key ≤ r.end

-- so is what the places hold that are asked for
abbrev pub AreDue : (ℕ → Bool) → ℕ → (ℕ → Received) → (ℕ → ℕ) → Type 0
AreDue is_asked clock x dues = (q : ℕ) → is_asked q ≡ true → IsDue clock (x q) (dues q)

-- A mailbox is looked at next after now, and by the time when its word is no longer fresh for any listener for whom it is.
pub record IsNextLook (clock : ℕ) (m : Mailbox) (hearers : List Listener) (due : ℕ) : Type 0 where
  pub later : clock < due
  pub each : All (λ (l : Listener). IsDue clock (held_for m l.stale) due) hearers

-- Words came in a moment: what isn't marked wasn't, and a place that is asked for then gives what it gave; each such place
-- is looked at in time, if each was. What each place held when the moment began is as it was.
pub record Renews (is_asked : ℕ → Bool) (params : List Parameter) (rules : List (Option Rule)) (clock : ℕ) (old new : Held) : Type 0 where
  pub marks : (q : ℕ) → is_marked new.changed (q / 3) ≡ false → is_marked old.changed (q / 3) ≡ false
  pub gives : (q : ℕ) (s : Source) → source_at params q ≡ Some s → is_asked q ≡ true → is_marked new.changed (q / 3) ≡ false
      → given clock (parameter_with params q).kind s (received_at rules new.mailboxes.items.items q)
      ≡ given clock (parameter_with params q).kind s (received_at rules old.mailboxes.items.items q)
  pub due : AreDue is_asked clock (received_at rules old.mailboxes.items.items) (due_at rules old.dues)
      → AreDue is_asked clock (received_at rules new.mailboxes.items.items) (due_at rules new.dues)
  pub before : (q : ℕ) → received_at rules (map (at_start clock) new.mailboxes.items.items) q
      ≡ received_at rules (map (at_start clock) old.mailboxes.items.items) q

-- A word came to the sources of a mailbox: they hold it, the other places hold what they held, and a parameter none of whose sources has
-- the mailbox is marked as it was.
pub record CameTo (rules : List (Option Rule)) (clock m bits : ℕ) (old new : Held) : Type 0 where
  pub own : (q : ℕ) (r : Rule) → get_or rules q None ≡ Some r → r.mailbox ≡ m → received_at rules new.mailboxes.items.items q ≡ renewed clock r.stale bits
  pub other : (q : ℕ) (r : Rule) → get_or rules q None ≡ Some r → r.mailbox ≢ m → received_at rules new.mailboxes.items.items q ≡ received_at rules old.mailboxes.items.items q
  pub none : (q : ℕ) → get_or rules q None ≡ None → received_at rules new.mailboxes.items.items q ≡ received_at rules old.mailboxes.items.items q
  pub marks : (p : ℕ) → ((q : ℕ) (r : Rule) → q / 3 ≡ p → get_or rules q None ≡ Some r → r.mailbox ≢ m) → is_marked new.changed p ≡ is_marked old.changed p

-- A moment begins: of the places that are asked for each word whose freshness ends with it will be looked at, and the others
-- in time.
pub record WillLook (is_asked : ℕ → Bool) (clock : ℕ) (x : ℕ → Received) (dues : ℕ → ℕ) : Type 0 where
  pub due : AreDue is_asked clock x dues
  pub ending : (q : ℕ) → is_asked q ≡ true → is_ending clock (x q) ≡ true → dues q ≤ clock
