-- When what a lane keeps of the conditions was made for a book.
use Rattle.std.specs.Prelude.{◌≡◌, ℕ, ◌<◌, ◌≤◌, ◌-◌, ◌^◌, true, List, length, slice_get, Some}
use Rattle.ecam_spec.specs.Book.{Book}
use Rattle.ecam_spec.specs.BookTerms.{terms_of, slots_in}
use Rattle.ecam_spec.specs.TermSize.{Placed}
use Rattle.book_model.specs.declared.draft.Draft.{Draft}
use Rattle.book_model.specs.Sealed.{the_book}
use Rattle.book_model.specs.Conditions.{places}
use Rattle.watch_lists.specs.declared.watch.Watch.{Watch}
use Rattle.watch_lists.specs.Watching.{IsWatch}
use Rattle.wakes.specs.Marks.{is_marked, room}
use Rattle.term_eval.specs.Linked.{AreOwned}
use Rattle.term_eval.specs.declared.owner.Owner.{Owner}
use Rattle.condition_codes.specs.Pieces.{owners_of}
use Rattle.condition_codes.specs.Places.{nodes_before}
use Rattle.condition_codes.specs.IsCodes.{IsCodes}
use Rattle.condition_codes.specs.IsAskers.{IsAskers}
use Rattle.fwc_lane.specs.declared.terms.Terms.{Terms}
use Rattle.fwc_lane.specs.LineFlags.{AreLineAlerts}

-- the lists tell which of the book's conditions name which operand
abbrev pub Watches : Book → Watch → Type 0
Watches b w = (d : Draft) × (the_book d ≡ b) × IsWatch d w

-- each condition that is stirred is woken
abbrev pub AreWoken : List ℕ → List ℕ → Type 0
AreWoken woken stirred = (j : ℕ) → is_marked stirred j ≡ true → is_marked woken j ≡ true

-- the slots of each condition below a number are of its temporal nodes
pub record OwnsBelow (b : Book) (i : ℕ) (all : List Owner) : Type 0 where
  pub each : (j : ℕ) (p : Placed) → j < i → slice_get (places b) j ≡ Some p → AreOwned all p.at (owners_of p)

-- it has room for the book's slots, nodes and conditions, the codes, the lists and the slots' temporal nodes are the book's, and
-- what is stirred is woken. Nothing is said of any history
pub record TermsFit (b : Book) (t : Terms) : Type 0 where
  pub codes : IsCodes b t.codes
  pub states : length t.cells.nodes.states ≡ nodes_before (places b) (length (places b))
  pub wakes : length t.cells.nodes.wakes ≡ slots_in (terms_of b)
  pub askers : IsAskers b t.askers
  pub slots : length t.cells.slots ≡ slots_in (terms_of b)
  pub owned : length t.cells.owners ≡ slots_in (terms_of b)
  pub owners : OwnsBelow b (length (places b)) t.cells.owners
  pub visits : t.cells.visits ≤ 2 ^ 64 - 1
  pub truths : length t.truths.items ≡ length (places b)
  pub dues : length t.dues ≡ length (places b)
  pub woken_room : length (places b) ≤ room t.woken
  pub stirred_room : length (places b) ≤ room t.stirred
  pub stirs : AreWoken t.woken t.stirred
  pub watch : Watches b t.watch
  pub line_alerts : AreLineAlerts b t.line_alerts.items

-- all that is kept of the moments so far was taken over from another's
pub record TookTerms (other t : Terms) : Type 0 where
  pub slots : t.cells.slots ≡ other.cells.slots
  pub nodes : t.cells.nodes ≡ other.cells.nodes
  pub owners : t.cells.owners ≡ other.cells.owners
  pub truths : t.truths.items ≡ other.truths.items
  pub dues : t.dues ≡ other.dues
  pub keys : t.keys ≡ other.keys
  pub one_up : t.one_up ≡ other.one_up
  pub two_up : t.two_up ≡ other.two_up
