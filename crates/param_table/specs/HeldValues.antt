-- What the parts of a table's calls answer, of which its contracts are made.
use Rattle.std.specs.Prelude.{ℕ, ◌+◌, ◌-◌, ◌^◌, nat_lt, Bool, not, ◌&&◌, ◌||◌, ◌==◌, ℤ, List, get_or, slice_index, slice_range, bit_and, bit_xor, Option, None, if◌then◌else◌}
use Rattle.std.specs.Option.{option_and_then, option_or, option_map_or}
use Rattle.ecam_spec.specs.declared.kinds.Kind.{Kind}
use Rattle.ecam_spec.specs.Book.{Source}
use Rattle.ecam_spec.specs.Value.{reading}
use Rattle.wakes.specs.Due.{never}
use Rattle.param_table.specs.Words.{may_say, reads}
use Rattle.param_table.specs.declared.received.Received.{Received}
use Rattle.param_table.specs.declared.mailbox.Mailbox.{Mailbox}
use Rattle.param_table.specs.declared.mailbox.Hearers.{Hearers}
use Rattle.param_table.specs.declared.mailbox.Listener.{Listener}
use Rattle.param_table.specs.declared.rules.Rule.{Rule}

-- ---- what a source holds

-- what is held where no source is
abbrev pub nothing : Received
nothing = record { bits = 0; end = 0 }

-- what a source gives by the word that it took last, where the clock shows this
abbrev pub given : ℕ → Kind → Source → Received → Option ℤ
given clock kind s r = if nat_lt clock r.end then reading kind s r.bits else None

-- the same by the rule of a place, and nothing where there is none
abbrev pub given_by : ℕ → Option Rule → Received → Option ℤ
given_by clock rule r = option_and_then (λ t. if nat_lt clock r.end then reads t.kind t.low t.range r.bits else None) rule

-- what the first of three places gives that gives something
abbrev pub first_given : ℕ → List (Option Rule) → (ℕ → Received) → ℕ → Option ℤ
first_given clock rules x place =
    option_or (given_by clock (get_or rules place None) (x place))
    (option_or (given_by clock (get_or rules (place + 1) None) (x (place + 1)))
    (given_by clock (get_or rules (place + 2) None) (x (place + 2))))

-- what a source holds that takes a word now, which is fresh for so many moments
abbrev pub renewed : ℕ → ℕ → ℕ → Received
renewed clock stale bits = record { bits = bits; end = clock + 1 + stale }

-- the word was fresh in the moment before, and isn't now
abbrev pub is_ending : ℕ → Received → Bool
is_ending clock r = r.end == clock

-- when a word is looked at next: when it is no longer fresh
abbrev pub next_look : ℕ → Received → ℕ
next_look clock r = if nat_lt clock r.end then r.end else never

-- ---- what a mailbox holds

-- before any word
abbrev pub empty : Hearers → Mailbox
empty hearers = record { after = 0; bits = 0; earlier_after = 0; earlier_bits = 0; hearers = hearers }

-- what stands where no mailbox is
abbrev pub unused : Mailbox
unused = empty (record { soonest = 0; first = 0; end = 0 })

-- what a source holds by its mailbox, where words are fresh for so many moments
abbrev pub held_for : Mailbox → ℕ → Received
held_for m stale = record { bits = m.bits; end = if m.after == 0 then 0 else m.after + stale }

-- what the source at a place holds, by its rule
abbrev pub received_at : List (Option Rule) → List Mailbox → ℕ → Received
received_at rules mailboxes place =
    option_map_or (λ (r : Rule). held_for (get_or mailboxes r.mailbox unused) r.stale) (get_or rules place None) nothing

-- the mailbox of the source at a place, and 0 where there is no source
abbrev pub mailbox_at : List (Option Rule) → ℕ → ℕ
mailbox_at rules place = option_map_or (λ (r : Rule). r.mailbox) (get_or rules place None) 0

-- when the source at a place is looked at: with its mailbox
abbrev pub due_at : List (Option Rule) → List ℕ → ℕ → ℕ
due_at rules dues place = slice_index dues (mailbox_at rules place)

-- the word is fresh for each listener
abbrev pub all_fresh : ℕ → Mailbox → Bool
all_fresh clock m = nat_lt clock (held_for m m.hearers.soonest).end

-- those who listen to it
abbrev pub hearers_of : List Listener → Mailbox → List Listener
hearers_of listeners m = slice_range listeners m.hearers.first m.hearers.end

-- what it held when the moment began that hasn't ended
abbrev pub at_start : ℕ → Mailbox → Mailbox
at_start clock m = if m.after == clock + 1 then record m { after = m.earlier_after; bits = m.earlier_bits } else m

-- a word came to it
abbrev pub delivered : ℕ → ℕ → Mailbox → Mailbox
delivered clock bits m = record m {
  bits = bits;
  after = clock + 1;
  earlier_after = (at_start clock m).after;
  earlier_bits = (at_start clock m).bits;
}

-- its word is not fresh
abbrev pub emptied : Mailbox → Mailbox
emptied m = record m { after = 0 }

-- the clock shows less by half, or 0
abbrev pub set_back : Mailbox → Mailbox
set_back m = record m { after = m.after - 2 ^ 31 }

-- ---- what words say to listeners

-- two words say the same: they differ in no bit that decides it, or neither says anything
abbrev pub says_same : Listener → ℕ → ℕ → Bool
says_same l old new = bit_and (bit_xor old new) l.mask == 0 || not (may_say l.modes old || may_say l.modes new)

-- the last word is fresh for the listener, and another says the same
abbrev pub keeps_saying : ℕ → ℕ → Mailbox → Listener → Bool
keeps_saying clock bits m l = nat_lt clock (held_for m l.stale).end && says_same l m.bits bits
