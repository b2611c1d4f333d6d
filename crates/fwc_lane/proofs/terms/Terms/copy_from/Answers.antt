use Rattle.std.proofs.Common.{length, sym, ap, subst, ◌∙◌, arith}
use Rattle.book_model.specs.Conditions.{places}
use Rattle.term_eval.specs.Memory.{NodeMemory}
use Rattle.fwc_lane.specs.TermsFit.{OwnsBelow}
use Rattle.fwc_lane.proofs.Owning.{owns-other}
use Rattle.fwc_lane.proofs.terms.Terms.copy_from.Goals as goal

pub returns-clause-fits : goal.returns-clause-fits
returns-clause-fits c = λ b fits.
    let (made, own, other) = c.requires in
    let old = c.args.self.now in
    record {
      codes = fits.codes;
      states = ap (λ (n : NodeMemory). length n.states) c.copy_from.ensures.nodes ∙ other.states ∙ sym own.states ∙ fits.states;
      wakes = ap (λ (n : NodeMemory). length n.wakes) c.copy_from.ensures.nodes ∙ other.wakes ∙ sym own.wakes ∙ fits.wakes;
      askers = fits.askers;
      slots = ap length c.copy_from.ensures.slots ∙ other.slots ∙ sym own.slots ∙ fits.slots;
      owned = ap length c.copy_from.ensures.owners ∙ other.owned ∙ sym own.owned ∙ fits.owned;
      owners =
          subst (OwnsBelow b (length (places b))) (sym c.copy_from.ensures.owners)
          (owns-other b made old.codes c.args.other.now.cells.owners fits.codes own.codes other.owners);
      visits = omega (arith, c.copy_from.ensures.visits, fits.visits);
      truths = ap length (c.copy_from_slice.ensures.items ∙ c.deref.ensures.value) ∙ other.truths ∙ sym own.truths ∙ fits.truths;
      dues = ap length c.copy_from-2.ensures ∙ other.dues ∙ sym own.dues ∙ fits.dues;
      woken_room = fits.woken_room;
      stirred_room = fits.stirred_room;
      stirs = fits.stirs;
      watch = fits.watch;
      line_alerts = fits.line_alerts;
    }
