-- What is kept of the conditions fits where only what the last moment left besides is another.
use Rattle.std.proofs.Common.{◌≡◌, ◌∙◌, Bool, length}
use Rattle.ecam_spec.specs.Book.{Book}
use Rattle.ecam_kinds.specs.declared.keys.Keys.{Keys}
use Rattle.fwc_lane.specs.declared.terms.Terms.{Terms}
use Rattle.fwc_lane.specs.TermsFit.{TermsFit}
use Rattle.wakes.specs.declared.due.Wakes.{Wakes}

-- the moments in which the conditions are due, the keys and the computers are others
pub terms-with : (b : Book) (t : Terms) (dues : Wakes) (keys : Keys) (one two : Bool) → TermsFit b t → length dues ≡ length t.dues
    → TermsFit b (record t { dues = dues; keys = keys; one_up = one; two_up = two })
terms-with b t dues keys one two fits same = record {
  codes = fits.codes;
  states = fits.states;
  wakes = fits.wakes;
  askers = fits.askers;
  slots = fits.slots;
  owned = fits.owned;
  owners = fits.owners;
  visits = fits.visits;
  truths = fits.truths;
  dues = same ∙ fits.dues;
  woken_room = fits.woken_room;
  stirred_room = fits.stirred_room;
  stirs = fits.stirs;
  watch = fits.watch;
  line_alerts = fits.line_alerts;
}
