use Rattle.std.proofs.Common.{length, refl, sym}
use Rattle.ecam_spec.proofs.PastRuns.{running_since-zero}
use Rattle.system_display.proofs.selector.Selector.new.Goals as goal

pub returns-clause-fits : goal.returns-clause-fits
returns-clause-fits c = λ b. c.new.ensures.choice (length b.pages)

pub returns-clause-stands : goal.returns-clause-stands
returns-clause-stands c = λ p. record {
  moments = refl;
  all_since = sym (running_since-zero p.all_held);
  selection = c.new.ensures.selection p;
  changed = (λ e. tt, λ e. refl);
}
