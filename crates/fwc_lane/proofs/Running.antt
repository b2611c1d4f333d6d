-- One condition is run: what it leaves, and that it is stepped by that.
use Rattle.std.proofs.Common.{◌≡◌, ℕ, suc, ◌+◌, ◌^◌, ◌<◌, ◌≤◌, Bool, length, slice_get, set, Some, sym, ap, subst, ◌∙◌, arith}
use Rattle.std.proofs.lemmas.List.{length-set}
use Rattle.std.proofs.lemmas.Option.{slice_get_within}
use Rattle.ecam_spec.specs.Book.{Book}
use Rattle.ecam_spec.specs.Term.{World, holds}
use Rattle.ecam_spec.specs.TermSize.{Placed, slots, nodes}
use Rattle.book_model.specs.Conditions.{places}
use Rattle.term_eval.specs.declared.env.Env.{Env}
use Rattle.term_eval.specs.CellWords.{cell_at}
use Rattle.term_eval.specs.CellState.{Stand}
use Rattle.term_eval.specs.Memory.{Memory}
use Rattle.term_eval.specs.NodeState.{NodesStand, Within, first_wake}
use Rattle.term_eval.specs.Due.{staying, IsDue}
use Rattle.term_eval.specs.Woken.{Operand}
use Rattle.condition_codes.specs.Places.{nodes_before}
use Rattle.fwc_lane.specs.declared.terms.Terms.{Terms}
use Rattle.fwc_lane.specs.TermsFit.{TermsFit, OwnsBelow}
use Rattle.fwc_lane.specs.Conditions.{IsLeft, TellsMoved, StepsTerm}
use Rattle.fwc_lane.specs.Given.{ShowsFirst}
use Rattle.fwc_lane.proofs.Stepping.{half-step}

-- what it says, and what is kept of it
pub record IsRun (w : World) (k start : ℕ) (p : Placed) (t : Terms) (truth : Bool) (due : ℕ) : Type 0 where
  pub truth_is : truth ≡ holds w p.tree k
  pub next : IsDue (staying w k) p.tree k due
  pub wakes : due ≡ first_wake t.cells.nodes.wakes p.at (slots p.tree)
  pub stands : Stand w (suc k) p.tree p.at t.cells.slots
  pub kept : NodesStand w k p.tree p.at start t.cells.nodes

-- what changes by that
pub record RunsOne (i start : ℕ) (p : Placed) (truth : Bool) (due : ℕ) (old new : Terms) : Type 0 where
  pub rest : new ≡ record old { cells = new.cells; truths = new.truths; dues = new.dues }
  pub within : Within start (start + nodes p.tree) p.at (p.at + slots p.tree) old.cells.nodes new.cells.nodes
  pub before : (j : ℕ) → j < p.at → cell_at new.cells.slots j ≡ cell_at old.cells.slots j
  pub behind : (j : ℕ) → p.at + slots p.tree ≤ j → cell_at new.cells.slots j ≡ cell_at old.cells.slots j
  pub len : length new.cells.slots ≡ length old.cells.slots
  pub owners : new.cells.owners ≡ old.cells.owners
  pub visits : new.cells.visits ≡ old.cells.visits
  pub truths : new.truths.items ≡ set old.truths.items i truth
  pub dues : new.dues ≡ set old.dues i due

-- once it was run with some cells, and then noted
module _ (i start : ℕ) (p : Placed) (truth : Bool) (due : ℕ) (old new : Terms) (m : Memory)
    (rest : new ≡ record old { cells = m; truths = new.truths; dues = new.dues }) where
  same-cells : new.cells ≡ m
  same-cells = ap (λ (t : Terms). t.cells) rest

  pub noted : Within start (start + nodes p.tree) p.at (p.at + slots p.tree) old.cells.nodes m.nodes
      → ((j : ℕ) → j < p.at → cell_at m.slots j ≡ cell_at old.cells.slots j)
      → ((j : ℕ) → p.at + slots p.tree ≤ j → cell_at m.slots j ≡ cell_at old.cells.slots j)
      → length m.slots ≡ length old.cells.slots → m.owners ≡ old.cells.owners → m.visits ≡ old.cells.visits
      → new.truths.items ≡ set old.truths.items i truth → new.dues ≡ set old.dues i due → RunsOne i start p truth due old new
  noted within before behind len owners visits truths dues = record {
    rest = subst (λ own. new ≡ record old { cells = own; truths = new.truths; dues = new.dues }) (sym same-cells) rest;
    within = subst (λ (q : Memory). Within start (start + nodes p.tree) p.at (p.at + slots p.tree) old.cells.nodes q.nodes) (sym same-cells) within;
    before = λ j lt. ap (λ (q : Memory). cell_at q.slots j) same-cells ∙ before j lt;
    behind = λ j le. ap (λ (q : Memory). cell_at q.slots j) same-cells ∙ behind j le;
    len = ap (λ (q : Memory). length q.slots) same-cells ∙ len;
    owners = ap (λ (q : Memory). q.owners) same-cells ∙ owners;
    visits = ap (λ (q : Memory). q.visits) same-cells ∙ visits;
    truths = truths;
    dues = dues;
  }

  pub noted-run : (w : World) (k : ℕ) → truth ≡ holds w p.tree k → IsDue (staying w k) p.tree k due → due ≡ first_wake m.nodes.wakes p.at (slots p.tree)
      → Stand w (suc k) p.tree p.at m.slots → NodesStand w k p.tree p.at start m.nodes → IsRun w k start p new truth due
  noted-run w k told next wakes stands kept = record {
    truth_is = told;
    next = next;
    wakes = wakes ∙ ap (λ (q : Memory). first_wake q.nodes.wakes p.at (slots p.tree)) (sym same-cells);
    stands = subst (λ (q : Memory). Stand w (suc k) p.tree p.at q.slots) (sym same-cells) stands;
    kept = subst (λ (q : Memory). NodesStand w k p.tree p.at start q.nodes) (sym same-cells) kept;
  }

pub run-fits : (b : Book) (i start : ℕ) (p : Placed) (truth : Bool) (due : ℕ) (old new : Terms) → RunsOne i start p truth due old new → TermsFit b old → TermsFit b new
run-fits b i start p truth due old new runs fits = subst (TermsFit b) (sym runs.rest) record {
  codes = fits.codes;
  states = runs.within.nodes ∙ fits.states;
  wakes = runs.within.slots ∙ fits.wakes;
  askers = fits.askers;
  slots = runs.len ∙ fits.slots;
  owned = ap length runs.owners ∙ fits.owned;
  owners = subst (OwnsBelow b (length (places b))) (sym runs.owners) fits.owners;
  visits = omega (arith, runs.visits, fits.visits);
  truths = ap length runs.truths ∙ length-set old.truths.items i truth ∙ fits.truths;
  dues = ap length runs.dues ∙ length-set old.dues i due ∙ fits.dues;
  woken_room = fits.woken_room;
  stirred_room = fits.stirred_room;
  stirs = fits.stirs;
  watch = fits.watch;
  line_alerts = fits.line_alerts;
}

pub run-steps : (b : Book) (env : Env) (k i : ℕ) (p : Placed) (truth : Bool) (due : ℕ) (old new : Terms) → k < 2 ^ 63 → slice_get (places b) i ≡ Some p → TermsFit b old
    → RunsOne i (nodes_before (places b) i) p truth due old new
    → ((w : World) (hit : Operand → Bool) → ShowsFirst env w k → TellsMoved hit w k p → IsLeft w hit k i (nodes_before (places b) i) p old
    → IsRun w k (nodes_before (places b) i) p new truth due)
    → StepsTerm (places b) env k i p old new truth
run-steps b env k i p truth due old new small here fits runs told =
    let inside : i < length (places b) = slice_get_within (places b) i p here in
    record {
      truth = λ worlds hit visited at shows tells half. (told (worlds i) hit shows tells (half.left i p (omega arith) at)).truth_is;
      stands = λ worlds hit visited at apart shows tells half.
          let is = told (worlds i) hit shows tells (half.left i p (omega arith) at) in
          half-step (places b) worlds k i p at apart old new truth due runs.before runs.behind runs.within runs.truths runs.dues
          (ap (λ (t : Terms). t.woken) runs.rest) (ap (λ (t : Terms). t.stirred) runs.rest) runs.visits hit visited small tells
          (omega (arith, inside, fits.truths)) (omega (arith, inside, fits.dues))
          is.stands is.kept is.wakes is.truth_is is.next half;
    }
