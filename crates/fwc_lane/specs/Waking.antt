-- What a moment brings that is another than in the moment before, by the numbers of operands, and whom it wakes.
use Rattle.std.specs.Prelude.{◌≡◌, ℕ, suc, ◌+◌, ◌-◌, ◌^◌, ◌==◌, nat_le, nat_lt, Bool, true, false, not, ◌&&◌, ◌||◌, List, length, slice_get, slice_index_or, ℤ, Option, Some, None, ◌≤◌, ◌<◌, MatchOption}
use Rattle.std.specs.List.{list_any}
use Rattle.std.specs.Option.{option_eq}
use Rattle.std.specs.Ordering.{int_eq}
use Rattle.ecam_spec.specs.Book.{Book}
use Rattle.ecam_spec.specs.BookTerms.{terms_of, slots_in}
use Rattle.ecam_spec.specs.Term.{World}
use Rattle.ecam_spec.specs.TermSize.{Placed, slots}
use Rattle.ecam_kinds.specs.declared.keys.Keys.{Keys}
use Rattle.book_model.specs.Conditions.{places, memos_from}
use Rattle.term_eval.specs.declared.reading.Reading.{Reading}
use Rattle.term_eval.specs.declared.reading.Reading.TheVariants.{Flag}
use Rattle.term_eval.specs.Memory.{Memory, NodeMemory}
use Rattle.term_eval.specs.NodeState.{state_at, NodesWait, first_wake}
use Rattle.term_eval.specs.Asked.{Asks, AreAtoms, heard}
use Rattle.term_eval.specs.Reading.{Reads}
use Rattle.term_eval.specs.Woken.{Operand, operands, differ}
use Rattle.watch_lists.specs.declared.number.Sizes.{Sizes}
use Rattle.watch_lists.specs.Naming.{operand_number, names_at}
use Rattle.wakes.specs.Marks.{is_marked, room}
use Rattle.condition_codes.specs.Places.{nodes_before}
use Rattle.condition_codes.specs.IsCodes.{IsCodes}
use Rattle.condition_codes.specs.IsAskers.{IsAsking}
use Rattle.condition_codes.specs.declared.codes.CodeTable.{CodeTable}
use Rattle.condition_codes.specs.declared.askers.Asker.{Asker}
use Rattle.fwc_lane.specs.declared.terms.Terms.{Terms}
use Rattle.fwc_lane.specs.TermsFit.{AreWoken}
use Rattle.fwc_lane.specs.Visits.{IsCounted}

abbrev pub sizes_in : Book → Sizes
sizes_in b = record { params = length b.parameters; alerts = length b.alerts }

-- of n numbers from one on those that pass a test, which counts them from 0
unfoldable pub ranged : ℕ → ℕ → (ℕ → Bool) → ℕ → Bool
ranged from n f o = (nat_le from o && nat_lt o (from + n)) && f (o - from)

-- no condition names one of n operands from one on
abbrev pub NamesNone : Book → ℕ → ℕ → Type 0
NamesNone b from n = (o j : ℕ) → from ≤ o → o < from + n → names_at (sizes_in b) (places b) j o ≡ false

-- value p is another than it was
abbrev pub value_turned : List (Option ℤ) → List (Option ℤ) → ℕ → Bool
value_turned was now p = not (option_eq int_eq (slice_index_or now p None) (slice_index_or was p None))

-- the key of number i counts as pressed in one of two moments alone. Number 8 is no key's, since pages count from 1
unfoldable pub key_turned : Keys → Keys → ℕ → Bool
key_turned was now i = not (i == 8) && differ (slice_index_or now.pressed i false) (slice_index_or was.pressed i false)

-- to the conditions that are marked come those that name an operand whose number passes the test
abbrev pub WakesBy : Book → (ℕ → Bool) → List ℕ → List ℕ → Type 0
WakesBy b f old new = (j : ℕ) (p : Placed) → slice_get (places b) j ≡ Some p
    → is_marked new j ≡ (is_marked old j || list_any (λ x. f (operand_number (sizes_in b) x)) (operands p.tree))

-- what the key of number i reads
abbrev pub key_read : Keys → ℕ → Reading
key_read keys i = Flag (not (i == 8) && slice_index_or keys.pressed i false)

-- each node that asks for an operand whose number passes the test is told what the operand reads, in whichever world and
-- moment it reads so
abbrev pub TurnsBy : Book → (ℕ → Bool) → (ℕ → Reading) → NodeMemory → NodeMemory → Type 0
TurnsBy b f reads old new = (j : ℕ) (p : Placed) → slice_get (places b) j ≡ Some p → (w : World) (h : ℕ) (asked : ℕ → Bool) → AreAtoms p.tree asked
    → ((i : ℕ) (x : Operand) → Asks p.tree i x → f (operand_number (sizes_in b) x) ≡ true → Reads w (suc h) x (reads (operand_number (sizes_in b) x)))
    → NodesWait w h asked p.tree p.at (nodes_before (places b) j) old
    → NodesWait w h (λ i. heard (λ x. f (operand_number (sizes_in b) x)) p.tree i || asked i) p.tree p.at (nodes_before (places b) j) new

-- condition j wasn't stirred, its first node tells what it told, and the first of its temporal nodes that is due is due when
-- it was
pub record Kept (j start : ℕ) (p : Placed) (nodes : NodeMemory) (stirred : List ℕ) (after : NodeMemory) : Type 0 where
  pub calm : is_marked stirred j ≡ false
  pub told : (state_at after.states start).told ≡ (state_at nodes.states start).told
  pub due : first_wake after.wakes p.at (slots p.tree) ≡ first_wake nodes.wakes p.at (slots p.tree)

-- a condition that isn't stirred was kept so
abbrev pub CalmBy : Book → Terms → Terms → Type 0
CalmBy b old new = (j : ℕ) (p : Placed) → slice_get (places b) j ≡ Some p → is_marked new.stirred j ≡ false
    → Kept j (nodes_before (places b) j) p old.cells.nodes old.stirred new.cells.nodes

-- of a condition that names no such operand the first of the temporal nodes that is due is due when it was
abbrev pub SameBy : Book → (ℕ → Bool) → NodeMemory → NodeMemory → Type 0
SameBy b f old new = (j : ℕ) (p : Placed) → slice_get (places b) j ≡ Some p → list_any (λ x. f (operand_number (sizes_in b) x)) (operands p.tree) ≡ false
    → first_wake new.wakes p.at (slots p.tree) ≡ first_wake old.wakes p.at (slots p.tree)

-- the nodes of a list are nodes of the book's conditions, whose codes these are, and there is room for all
pub record CanTurn (b : Book) (asking : List Asker) (codes : CodeTable) (nodes : NodeMemory) (woken stirred : List ℕ) : Type 0 where
  pub are : IsCodes b codes
  pub asks : (k : ℕ) (a : Asker) → slice_get asking k ≡ Some a → (o : ℕ) × IsAsking b o a
  pub states : length nodes.states ≡ nodes_before (places b) (length (places b))
  pub slots : length nodes.wakes ≡ slots_in (terms_of b)
  pub enough : length (places b) ≤ room stirred
  pub also : length (places b) ≤ room woken

-- those of the nodes of condition j
abbrev pub is_listed : List Asker → ℕ → ℕ → Bool
is_listed asking j i = list_any (λ (a : Asker). a.term == j && a.node == i) asking

-- each of them is told what the operand reads for which it asks
pub record TurnsEach (b : Book) (asking : List Asker) (reading : Reading) (nodes : NodeMemory) (stirred : List ℕ) (after : NodeMemory) (marks : List ℕ) : Type 0 where
  pub states : length after.states ≡ length nodes.states
  pub wakes : length after.wakes ≡ length nodes.wakes
  pub same : room marks ≡ room stirred
  pub turns : (j : ℕ) (p : Placed) → slice_get (places b) j ≡ Some p → (w : World) (h : ℕ) (asked : ℕ → Bool) → AreAtoms p.tree asked
      → ((i : ℕ) (x : Operand) → Asks p.tree i x → is_listed asking j i ≡ true → Reads w (suc h) x reading)
      → NodesWait w h asked p.tree p.at (nodes_before (places b) j) nodes
      → NodesWait w h (λ i. is_listed asking j i || asked i) p.tree p.at (nodes_before (places b) j) after
  pub calm : (j : ℕ) (p : Placed) → slice_get (places b) j ≡ Some p → is_marked marks j ≡ false → Kept j (nodes_before (places b) j) p nodes stirred after
  pub due : (j : ℕ) (p : Placed) → slice_get (places b) j ≡ Some p → ((i : ℕ) → is_listed asking j i ≡ false)
      → first_wake after.wakes p.at (slots p.tree) ≡ first_wake nodes.wakes p.at (slots p.tree)

-- some node of condition j is among those of a list
abbrev pub is_asking : List Asker → ℕ → Bool
is_asking asking j = list_any (λ (a : Asker). a.term == j) asking

-- the conditions of some nodes are marked, and the nodes of each that wasn't are counted
pub record MarksEach (b : Book) (asking : List Asker) (woken : List ℕ) (cells : Memory) (marks : List ℕ) (after : Memory) : Type 0 where
  pub same : room marks ≡ room woken
  pub marked : (j : ℕ) → is_marked marks j ≡ (is_marked woken j || is_asking asking j)
  pub slots : after.slots ≡ cells.slots
  pub owners : after.owners ≡ cells.owners
  pub most : cells.visits ≤ 2 ^ 64 - 1 → after.visits ≤ 2 ^ 64 - 1
  pub counts : (visited : ℕ) → IsCounted (places b) visited woken cells.visits → IsCounted (places b) visited marks after.visits

-- the operands whose numbers pass the test, and which read so, wake the conditions that name them: the nodes of each that
-- wasn't woken are counted, those that ask for the operands are told, a condition that isn't stirred was kept so, and where each
-- that was stirred was woken, so it is. Nothing else changes
pub record HasWoken (b : Book) (f : ℕ → Bool) (reads : ℕ → Reading) (old new : Terms) : Type 0 where
  pub rest : new ≡ record old { woken = new.woken; stirred = new.stirred; cells = new.cells }
  pub woken_room : room new.woken ≡ room old.woken
  pub stirred_room : room new.stirred ≡ room old.stirred
  pub states : length new.cells.nodes.states ≡ length old.cells.nodes.states
  pub wakes : length new.cells.nodes.wakes ≡ length old.cells.nodes.wakes
  pub slots : new.cells.slots ≡ old.cells.slots
  pub owners : new.cells.owners ≡ old.cells.owners
  pub terms : WakesBy b f old.woken new.woken
  pub counts : (visited : ℕ) → IsCounted (places b) visited old.woken old.cells.visits → IsCounted (places b) visited new.woken new.cells.visits
  pub turns : TurnsBy b f reads old.cells.nodes new.cells.nodes
  pub calm : CalmBy b old new
  pub stirs : AreWoken old.woken old.stirred → AreWoken new.woken new.stirred
  pub same : SameBy b f old.cells.nodes new.cells.nodes

-- no condition of these numbers is marked
abbrev pub NoneMarked : List ℕ → ℕ → ℕ → Type 0
NoneMarked marks from to = (j : ℕ) → from ≤ j → j < to → is_marked marks j ≡ false

-- of `count` items of one condition each, whose number is `start` of the item, this is the first from one on whose condition is
-- marked, or none is
abbrev pub FindsNext : List ℕ → (ℕ → ℕ) → ℕ → ℕ → Option ℕ → Type 0
FindsNext marks start from count found =
    MatchOption found (NoneMarked marks (start from) (start count))
    (λ i. (from ≤ i) × (i < count) × NoneMarked marks (start from) (start i)
    × (is_marked marks (start i) ≡ true))

-- the number of a memo's condition
abbrev pub memo_number : Book → ℕ → ℕ
memo_number b i = memos_from b + i
