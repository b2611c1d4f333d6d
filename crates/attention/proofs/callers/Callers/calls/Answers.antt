use Rattle.std.proofs.Common.{ℕ, length, sym, ◌∙◌, ap, subst}
use Rattle.std.specs.Prelude.{option_map}
use Rattle.std.specs.List.{list_any}
use Rattle.ecam_spec.specs.Places.{below}
use Rattle.wakes.specs.Marks.{is_marked}
use Rattle.attention.specs.Latest.{any_rings, Tells}
use Rattle.attention.proofs.Below.{any-found}
use Rattle.attention.proofs.CallLaws.{first-sound, warnings-called, cautions-called, chimes-called}
use Rattle.attention.proofs.Ringing.{rings}
use Rattle.attention.proofs.callers.Callers.calls.Goals as goal

pub latest_known-requires : goal.latest_known-requires
latest_known-requires c = subst (λ n. Tells (any_rings n c.args.watches.now c.args.self.now.chimes) c.args.latest) (sym c.requires.watches) c.requires.latest

pub returns-clause-chime : goal.returns-clause-chime
returns-clause-chime c = λ j.
    c.latest_known.ensures j ∙ ap (λ n. any_rings n c.args.watches.now c.args.self.now.chimes j) c.requires.watches

pub returns-clause-calls : goal.returns-clause-calls
returns-clause-calls c = λ a k listed kept are.
    let alerts = c.args.alerts.now in
    let n = length alerts in
    let callers = c.args.self.now in
    let watches = c.args.watches.now in
    record {
      warning =
          c.sound_at.ensures
          ∙ first-sound a alerts listed (is_marked callers.warnings) c.next_or-first.result c.next_or-first.ensures.end c.next_or-first.ensures.marked c.next_or-first.ensures.none
          ∙ ap (option_map a.sound) (warnings-called a k n callers are);
      caution =
          any-found (is_marked callers.cautions) n c.next_or.result c.next_or.ensures.end c.next_or.ensures.marked c.next_or.ensures.none
          ∙ cautions-called a k n callers are;
      chime = λ j.
          c.latest_known.ensures j
          ∙ ap (λ (m : ℕ). list_any (rings callers.chimes watches j) (below m)) c.requires.watches
          ∙ chimes-called a k n callers are watches j kept;
    }
