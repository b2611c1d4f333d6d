-- What a table of parameters says of the words so far.
use Rattle.std.specs.Prelude.{◌≡◌, ℕ, zero, suc, ◌+◌, ◌-◌, ◌*◌, ◌/◌, ◌^◌, ◌<◌, ◌≤◌, false, ℤ, pos, neg_ℤ, ◌≤ℤ◌, ◌⊎◌, List, length, map, slice_index, Option, Some, None, All, true}
use Rattle.ecam_spec.specs.declared.limits.TheConstants.{NUMBER}
use Rattle.ecam_spec.specs.declared.kinds.Kind.{Kind}
use Rattle.ecam_spec.specs.declared.kinds.Kind.TheVariants.{Disc, Bnr, Bcd}
use Rattle.std.specs.List.{slice_get}
use Rattle.std.specs.Option.{option_map_or}
use Rattle.ecam_spec.specs.Past.{last, previous}
use Rattle.ecam_spec.specs.Situation.{parameter_at}
use Rattle.ecam_spec.specs.Book.{Source, Parameter, Book}
use Rattle.ecam_spec.specs.KeepsLimits.{IsSoundParameter}
use Rattle.ecam_spec.specs.Value.{BusWord, arrives, word_of, is_fresh, source_value, value}
use Rattle.wakes.specs.Marks.{is_marked, room}
use Rattle.book_model.specs.SourcePlaces.{parameter_with, source_at}
use Rattle.param_table.specs.Routes.{AreRouted}
use Rattle.param_table.specs.Asked.{is_asked_at}
use Rattle.param_table.specs.HeldValues.{given, received_at, due_at, at_start}
use Rattle.param_table.specs.HeldState.{AreDue, AreEarly, AreSummed}
use Rattle.param_table.specs.declared.received.Received.{Received}
use Rattle.param_table.specs.declared.held.Held.{Held}
use Rattle.param_table.specs.declared.table.Params.{Params}

-- the values that a parameter can have
abbrev pub IsValueOf : Kind → ℤ → Type 0
IsValueOf Disc v = (pos 0 ≤ℤ v) × (v ≤ℤ pos 1)
IsValueOf Bnr v = (neg_ℤ (pos NUMBER) ≤ℤ v) × (v ≤ℤ pos NUMBER)
IsValueOf Bcd v = (neg_ℤ (pos NUMBER) ≤ℤ v) × (v ≤ℤ pos NUMBER)

-- the value of a parameter in the moment before, and none before moment 0
unfoldable pub value_before : Parameter → (ℕ → List BusWord) → ℕ → Option ℤ
value_before p words zero = None
value_before p words (suc j) = value p words j

-- what a source gave in the moment before
abbrev pub source_before : Kind → ℕ → Source → (ℕ → List BusWord) → ℕ → Option ℤ
source_before kind stale s words zero = None
source_before kind stale s words (suc j) = source_value kind stale s words j

-- A source of the parameter may give something else than in the moment before: it took a word, or its freshness ended.
pub record MayDiffer (p : Parameter) (words : ℕ → List BusWord) (k : ℕ) : Type 0 where
  pub place : ℕ
  pub source : Source
  pub there : slice_get p.sources place ≡ Some source
  pub why : (arrives source words k ≡ true) ⊎ ((previous (is_fresh p.stale source words) k ≡ true) × (is_fresh p.stale source words k ≡ false))

-- The word that a source took last is there while it is fresh, and for how many moments more it is.
pub record SourceStands (stale : ℕ) (s : Source) (words : ℕ → List BusWord) (k clock : ℕ) (r : Received) : Type 0 where
  pub says : clock < r.end → word_of s words k ≡ Some r.bits
  pub left : r.end - clock ≡ option_map_or (λ m. m + stale + 1 - k) (last (arrives s words) k) 0

-- There is room for each parameter, nothing else is marked, and the summary tells which words have marks. There is a time at
-- which each mailbox is looked at, and no word came later than now.
pub record HeldFits (params : List Parameter) (clock : ℕ) (h : Held) : Type 0 where
  pub room : room h.changed ≡ 64 * (length params / 64 + 1)
  pub within : (p : ℕ) → length params ≤ p → is_marked h.changed p ≡ false
  pub busy : AreSummed h.changed h.busy
  pub dues : length h.dues ≡ length h.mailboxes.items.items
  pub early : AreEarly clock h.mailboxes.items.items

-- what the source at a place of the table holds
abbrev pub received_by : Params → ℕ → Received
received_by p = received_at p.routing.rules.items.items p.held.mailboxes.items.items

-- what that source held when the moment began that hasn't ended
abbrev pub received_before : Params → ℕ → Received
received_before p = received_at p.routing.rules.items.items (map (at_start p.clock) p.held.mailboxes.items.items)

-- the table was made for the book: it has a mailbox for the sources of each bus, label and SDI, and how each reads its words
pub record ParamsFit (b : Book) (p : Params) : Type 0 where
  pub sound : All IsSoundParameter b.parameters
  pub routed : AreRouted b p.routing p.held.mailboxes.items.items
  pub held : HeldFits b.parameters p.clock p.held

-- The table stands for the words of the moments up to k, which hasn't ended: it has what each source took last, and what
-- each gave in the moment before. Each source of a parameter that is asked for is looked at in time, and gives what it
-- gave where the parameter isn't marked. One that is marked may differ.
pub record ParamsStand (b : Book) (words : ℕ → List BusWord) (k : ℕ) (p : Params) : Type 0 where
  pub fits : ParamsFit b p
  pub sources : (q : ℕ) (s : Source) → source_at b.parameters q ≡ Some s
      → SourceStands (parameter_with b.parameters q).stale s words k p.clock (received_by p q)
  pub before : (q : ℕ) (s : Source) → source_at b.parameters q ≡ Some s
      → given (p.clock - 1) (parameter_with b.parameters q).kind s (received_before p q)
      ≡ source_before (parameter_with b.parameters q).kind (parameter_with b.parameters q).stale s words k
  pub due : AreDue (is_asked_at b) p.clock (received_by p) (due_at p.routing.rules.items.items p.held.dues)
  pub unchanged : (q : ℕ) (s : Source) → source_at b.parameters q ≡ Some s → is_asked_at b q ≡ true
      → is_marked p.held.changed (q / 3) ≡ false
      → given p.clock (parameter_with b.parameters q).kind s (received_by p q)
      ≡ source_before (parameter_with b.parameters q).kind (parameter_with b.parameters q).stale s words k
  pub told : (j : ℕ) → is_marked p.held.changed j ≡ true → MayDiffer (parameter_at b j) words k

-- nothing of the table changes with the end of the moment but its clock: no parameter is marked, and no mailbox is looked at
pub record IsStill (p : Params) : Type 0 where
  pub clock : p.clock < 2 ^ 32 - 1
  pub dues : (q : ℕ) → q < length p.held.dues → p.clock + 1 < slice_index p.held.dues q
  pub none : (j : ℕ) → is_marked p.held.changed j ≡ false
